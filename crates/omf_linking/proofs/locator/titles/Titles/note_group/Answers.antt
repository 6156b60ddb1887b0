use Rattle.std.proofs.Common.{refl}
use Rattle.std.specs.Prelude.{filter_map}
use Rattle.omf_check.specs.Module.{records_in}
use Rattle.omf_check.specs.WellFormed.{recs}
use Rattle.omf_linking.specs.Locator.Items.{Given, group_given, group_title}
use Rattle.omf_linking.specs.Locator.LinkEntries.{GroupFrame}
use Rattle.omf_linking.proofs.TitleLaws.{titles-group}
use Rattle.omf_linking.proofs.locator.titles.Titles.note_group.Goals as goal

pub returns : goal.returns
returns c = λ ms items j here at.
    let i = c.args.index in
    titles-group ms c.args.self.now items (Given j i (GroupFrame c.args.frame)) at ((j, i), c.args.frame) (record { segments = c.args.self.now.segments; groups = c.add.new.self }) refl refl refl
    (c.in_ok-add.ensures group_title ms (filter_map group_given items) j i (recs (records_in c.args.«module».now.bytes)) here c.in_ok-title.ensures at.groups_are)
