use Rattle.std.proofs.Common.{◌≡◌, ◌≤◌, length}
use Rattle.omf_dump.specs.Library.{after_member}
use Rattle.omf_dump.proofs.later.after_member.Given as goal

-- the member is not ended
abbrev pub invariant-loop-left : goal.invariant-loop-left
invariant-loop-left l = record {
  same : after_member 0 l.left ≡ after_member 0 l.bytes;
  shorter : length l.left ≤ length l.bytes;
}

abbrev pub decreases-loop-left : goal.decreases-loop-left
decreases-loop-left l = length l.left
