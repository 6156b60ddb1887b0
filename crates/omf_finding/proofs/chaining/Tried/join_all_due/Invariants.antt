use Rattle.std.proofs.Common.{◌≡◌, ◌<◌, ℕ, false, true, length}
use Rattle.omf_finding.specs.Inner.Chaining.{HaveJoined}
use Rattle.omf_finding.specs.Inner.Closing.{IsAskedOf, IsIdle, left_of}
use Rattle.omf_finding.proofs.chaining.Tried.join_all_due.Given as goal

-- if none was to be found so far, nothing is changed
abbrev pub invariant-loop-number : goal.invariant-loop-number
invariant-loop-number l = record {
  joined : HaveJoined l.self l.joined.marks.items;
  asked : IsAskedOf l.self l.joined.marks.items l.names.spots;
  end : l.number-end ≡ length l.self.modules.now;
  same : l.some ≡ false → l.joined.marks.items ≡ l.fn.joined.marks.items;
  idle : l.some ≡ false → (j : ℕ) → j < l.number → IsIdle l.self l.fn.joined.marks.items l.names.spots j;
  fewer : l.some ≡ true → left_of l.joined.marks.items < left_of l.fn.joined.marks.items;
}
