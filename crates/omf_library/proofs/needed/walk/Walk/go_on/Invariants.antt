use Rattle.std.proofs.Common.{◌-◌, ◌<◌, ◌≤◌, ℕ, length, get_or}
use Rattle.std.specs.Prelude.{All}
use Rattle.omf_library.specs.Inner.Search.{offered}
use Rattle.omf_library.specs.Inner.Walk.{AreTaken, IsLooked, IsWalk}
use Rattle.omf_library.proofs.needed.walk.Walk.go_on.Given as goal

-- the members before `at` were looked at
abbrev pub invariant-loop-at : goal.invariant-loop-at
invariant-loop-at l = record {
  walk : IsWalk (offered l.search) l.self.joined.items l.self.queue.items;
  given : All (AreTaken (offered l.search) l.self.joined.items) (offered l.search).given;
  low : l.at ≤ length l.self.queue.items;
  looked : (i d : ℕ) → i < l.at → IsLooked (offered l.search) l.self.joined.items (get_or l.self.queue.items i d);
}

abbrev pub decreases-loop-at : goal.decreases-loop-at
decreases-loop-at l = length l.search.members.now - l.at
