use Rattle.std.proofs.Common.{◌∙◌}
use Rattle.std.specs.Prelude.{filter_map}
use Rattle.omf_check.specs.Module.{records_in}
use Rattle.omf_check.specs.WellFormed.{recs}
use Rattle.omf_linking.specs.Locator.Items.{group_given, group_title, in_quotes}
use Rattle.omf_linking.proofs.locator.titles.Titles.group.Goals as goal

pub returns : goal.returns
returns c = λ ms items at.
    c.frame.ensures group_title ms (filter_map group_given items) (in_quotes (group_title (recs (records_in c.args.«module».now.bytes)) c.args.index)) (c.deref.ensures.value ∙ c.in_ok-title.ensures) at.groups_are
