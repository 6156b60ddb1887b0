use Rattle.std.proofs.Common.{◌≡◌, ◌++◌, length}
use Rattle.omf_placement.specs.Weak.{indices, paired}
use Rattle.omf_placement.proofs.several.pairs.put_pairs.Given as goal

-- the pairs so far, and those of the text that is left
abbrev pub invariant-loop-pair : goal.invariant-loop-pair
invariant-loop-pair l = l.pairs.items ++ paired (indices l.rest) ≡ l.fn.pairs.items ++ paired (indices l.fn.text)

abbrev pub decreases-loop-pair : goal.decreases-loop-pair
decreases-loop-pair l = length l.rest
