use Rattle.std.proofs.Common.{◌≡◌, length, map}
use Rattle.std.specs.Char.{to_ascii_lowercase}
use Rattle.omf_linking.proofs.folding.named.is_lower.Given as goal

-- the names are the same if what is left of them is
abbrev pub invariant-loop-left : goal.invariant-loop-left
invariant-loop-left l = l.right ≡ map to_ascii_lowercase l.left → l.lower ≡ map to_ascii_lowercase l.name

abbrev pub decreases-loop-left : goal.decreases-loop-left
decreases-loop-left l = length l.left
