use Rattle.std.proofs.Common.{◌≡◌, ◌++◌, ℕ, List, length, take, drop}
use Rattle.std.specs.Prelude.{Some, slice_get}
use Rattle.omf_check.specs.Module.{records_in}
use Rattle.omf_check.specs.Tables.{segments}
use Rattle.omf_check.specs.WellFormed.{recs}
use Rattle.omf_records.specs.Values.{Rec}
use Rattle.omf_linking.specs.Inner.Sharing.{shared_after}
use Rattle.omf_linking.specs.Inner.Titling.{IsFrameTable}
use Rattle.omf_linking.specs.Locator.Drafted.{parts_framed}
use Rattle.omf_linking.specs.Locator.Items.{segment_title}
use Rattle.omf_linking.proofs.SharingLaws.{Framed}
use Rattle.omf_linking.proofs.locator.shares.segments_shared.Given as goal

-- the lines so far are in the table, and those that are left are still to be looked up
abbrev pub invariant-loop-before : goal.invariant-loop-before
invariant-loop-before l = let m = recs (records_in l.«module».bytes) in record {
  end : l.before-end ≡ length (segments m);
  table : (ms : List (List Rec)) (gs : List Framed) (j : ℕ) → slice_get ms j ≡ Some m → IsFrameTable segment_title ms gs l.fn.firsts.by_title → IsFrameTable segment_title ms (gs ++ take l.before (parts_framed j m l.placement.segments)) l.firsts.by_title;
  shared : (ms : List (List Rec)) (gs : List Framed) (j : ℕ) → slice_get ms j ≡ Some m → IsFrameTable segment_title ms gs l.fn.firsts.by_title
      → l.shared.items ++ shared_after segment_title ms (gs ++ take l.before (parts_framed j m l.placement.segments)) m (drop l.before (parts_framed j m l.placement.segments)) ≡ shared_after segment_title ms gs m (parts_framed j m l.placement.segments);
}
