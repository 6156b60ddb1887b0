use Rattle.std.proofs.Common.{refl}
use Rattle.std.proofs.lemmas.Result.{on_ok_weaker}
use Rattle.omf_linking.specs.Locator.Items.{Given}
use Rattle.omf_linking.specs.Locator.LinkEntries.{ExternalPlace, SegmentPlace, StoredPlace}
use Rattle.omf_linking.proofs.TitleLaws.{titles-same}
use Rattle.omf_linking.proofs.locator.titles.Titles.note.Goals as goal

pub returns-in-Segment : goal.returns-in-Segment
returns-in-Segment c =
    rw c.in-Segment.is (on_ok_weaker c.note_segment.result (λ h ms items j here at. h ms items j (Given j c.args.index (SegmentPlace c.in-Segment.place)) here refl refl at) c.note_segment.ensures)

pub returns-in-Stored : goal.returns-in-Stored
returns-in-Stored c =
    rw c.in-Stored.is (on_ok_weaker c.note_segment-in-Stored.result (λ h ms items j here at. h ms items j (Given j c.args.index (StoredPlace c.in-Stored.place c.in-Stored.address)) here refl refl at) c.note_segment-in-Stored.ensures)

pub returns-in-Group : goal.returns-in-Group
returns-in-Group c = rw c.in-Group.is c.note_group.ensures

pub returns-in-External : goal.returns-in-External
returns-in-External c = λ ms items j here at. rw c.in-External.is (titles-same ms c.args.self.now items (Given j c.args.index (ExternalPlace c.in-External.field-0)) at refl refl)
