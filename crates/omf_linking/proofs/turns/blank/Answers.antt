use Rattle.std.proofs.Common.{[], sym, subst}
use Rattle.std.specs.Prelude.{All}
use Rattle.omf_check.specs.Module.{records_in}
use Rattle.omf_check.specs.WellFormed.{recs}
use Rattle.omf_image.specs.Painting.{Fits}
use Rattle.omf_reloc.proofs.MeasureLaws.{all-fit}
use Rattle.omf_linking.proofs.turns.blank.Goals as goal

pub painted-requires : goal.painted-requires
painted-requires c =
    subst (All Fits) (sym c.in_ok-data_of.ensures.data) (all-fit (record { segments = []; groups = []; externals = [] }) (recs (records_in c.args.«module».now.bytes)) c.data_of.ensures.holds)
