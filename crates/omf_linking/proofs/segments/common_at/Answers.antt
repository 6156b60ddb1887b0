use Rattle.std.proofs.Common.{◌∙◌, ap, sym}
use Rattle.std.specs.Prelude.{Some, option_map}
use Rattle.omf_check.specs.Module.{records_in}
use Rattle.omf_check.specs.Tables.{attributes}
use Rattle.omf_check.specs.WellFormed.{recs}
use Rattle.omf_placement.proofs.AttributeLaws.{attribute-there}
use Rattle.omf_linking.specs.Segments.{is_common}
use Rattle.omf_linking.proofs.SegmentsLaws.{entry_mapped}
use Rattle.omf_linking.proofs.segments.common_at.Goals as goal

pub unreachable-requires : goal.unreachable-requires
unreachable-requires c = attribute-there (recs (records_in c.args.«module».now.bytes)) c.args.index c.requires.low c.requires.within (sym c.attribute.ensures ∙ c.in_default.is)

pub returns : goal.returns
returns c =
    entry_mapped is_common (attributes (recs (records_in c.args.«module».now.bytes))) c.args.index ∙ ap (option_map is_common) (sym c.attribute.ensures ∙ c.in-Some.is)
    ∙ ap Some (sym c.is_common.ensures)
