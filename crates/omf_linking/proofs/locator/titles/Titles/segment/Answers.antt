use Rattle.std.proofs.Common.{◌∙◌}
use Rattle.std.specs.Prelude.{filter_map}
use Rattle.omf_check.specs.Module.{records_in}
use Rattle.omf_check.specs.WellFormed.{recs}
use Rattle.omf_linking.specs.Locator.Items.{in_quotes, segment_framed, segment_title}
use Rattle.omf_linking.proofs.locator.titles.Titles.segment.Goals as goal

pub returns : goal.returns
returns c = λ ms items at.
    c.frame.ensures segment_title ms (filter_map segment_framed items) (in_quotes (segment_title (recs (records_in c.args.«module».now.bytes)) c.args.index)) (c.deref.ensures.value ∙ c.in_ok-title.ensures) at.segments_are
