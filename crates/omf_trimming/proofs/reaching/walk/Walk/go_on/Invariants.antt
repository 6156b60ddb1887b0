use Rattle.std.proofs.Common.{◌+◌, ◌-◌, ◌<◌, List, ℕ, length, get_or}
use Rattle.std.specs.Prelude.{All}
use Rattle.omf_records.specs.Values.{Rec}
use Rattle.omf_trimming.specs.Reaching.{Node, roots}
use Rattle.omf_trimming.specs.Inner.Reaching.{IsLooked, IsProgram, IsTaken, IsWalk, left_open}
use Rattle.omf_trimming.proofs.reaching.walk.Walk.go_on.Given as goal
use Rattle.omf_trimming.specs.declared.optional.LeftOut.{LeftOut}

-- what the segments before `at` refer to was looked at
abbrev pub invariant-loop-at : goal.invariant-loop-at
invariant-loop-at l = record {
  so_far : (o : LeftOut) (ms : List (List Rec)) → IsProgram ms l.program → IsWalk o ms l.fn.self.marks.items l.fn.self.queue.items → All (IsTaken ms l.fn.self.marks.items) (roots o ms)
      → IsWalk o ms l.self.marks.items l.self.queue.items × All (IsTaken ms l.self.marks.items) (roots o ms)
      × ((i : ℕ) (d : Node) → i < l.at → IsLooked ms l.self.marks.items (get_or l.self.queue.items i d));
}

abbrev pub decreases-loop-at : goal.decreases-loop-at
decreases-loop-at l = length l.self.queue.items + left_open l.self.marks.items - l.at
