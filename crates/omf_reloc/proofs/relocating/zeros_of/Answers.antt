use Rattle.std.proofs.Common.{sym, subst, []}
use Rattle.std.specs.Prelude.{All, IfOk}
use Rattle.omf_image.specs.Overlay.{AreLaidOver}
use Rattle.omf_image.specs.Painting.{all_zeros, Fits}
use Rattle.omf_check.specs.Module.{records_in}
use Rattle.omf_check.specs.WellFormed.{recs}
use Rattle.omf_reloc.proofs.MeasureLaws.{all-fit}
use Rattle.omf_reloc.proofs.relocating.zeros_of.Goals as goal

pub painted-requires : goal.painted-requires
painted-requires c =
    subst (All Fits) (sym c.in_ok-covered.ensures.listed) (all-fit (record { segments = []; groups = []; externals = [] }) (recs (records_in c.args.module.now.bytes)) c.extents.ensures.holds)

pub returns-clause-zeros : goal.returns-clause-zeros
returns-clause-zeros c = subst (λ es. IfOk c.painted.result (AreLaidOver [] (all_zeros es))) c.in_ok-covered.ensures.listed c.painted.ensures
