use Rattle.std.proofs.Common.{refl}
use Rattle.std.specs.Prelude.{Some, filter_map}
use Rattle.omf_check.specs.Module.{records_in}
use Rattle.omf_check.specs.WellFormed.{recs}
use Rattle.omf_linking.specs.Locator.Items.{segment_framed, segment_title}
use Rattle.omf_linking.proofs.TitleLaws.{titles-segment}
use Rattle.omf_linking.proofs.locator.titles.Titles.note_segment.Goals as goal

pub returns : goal.returns
returns c = λ ms items j x here e f at.
    let i = c.args.index in
    titles-segment ms c.args.self.now items x at ((j, i), Some c.args.place.frame) (record { segments = c.add.new.self; groups = c.args.self.now.groups }) e f refl
    (c.in_ok-add.ensures segment_title ms (filter_map segment_framed items) j i (recs (records_in c.args.«module».now.bytes)) here c.in_ok-title.ensures at.segments_are)
