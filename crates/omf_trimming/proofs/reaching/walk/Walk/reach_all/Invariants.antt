use Rattle.std.proofs.Common.{◌≡◌, ◌+◌, List, length, take}
use Rattle.std.specs.Prelude.{All}
use Rattle.omf_records.specs.Values.{Rec}
use Rattle.omf_trimming.specs.Inner.Reaching.{IsCalled, IsGrown, IsWalk, left_open}
use Rattle.omf_trimming.specs.declared.optional.LeftOut.{LeftOut}
use Rattle.omf_trimming.proofs.reaching.walk.Walk.reach_all.Given as goal

-- the segments so far are reached; a mark is set for each that joined the queue
abbrev pub invariant-loop-segment : goal.invariant-loop-segment
invariant-loop-segment l = record {
  grown : (o : LeftOut) (ms : List (List Rec)) → IsWalk o ms l.fn.self.marks.items l.fn.self.queue.items → All (IsCalled o ms) l.segments → IsGrown o ms l.fn.self.marks.items l.fn.self.queue.items l.self.marks.items l.self.queue.items (take l.segment-index l.segments);
  total : length l.self.queue.items + left_open l.self.marks.items ≡ length l.fn.self.queue.items + left_open l.fn.self.marks.items;
}
