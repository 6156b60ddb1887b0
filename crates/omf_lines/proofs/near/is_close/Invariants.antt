use Rattle.std.proofs.Common.{◌≡◌, length}
use Rattle.omf_lines.specs.Near.{is_close}
use Rattle.omf_lines.proofs.near.is_close.Given as goal

-- what is left of both is close if they are
abbrev pub invariant-loop-a : goal.invariant-loop-a
invariant-loop-a l = is_close l.left l.right ≡ is_close l.one l.other

abbrev pub decreases-loop-a : goal.decreases-loop-a
decreases-loop-a l = length l.left
