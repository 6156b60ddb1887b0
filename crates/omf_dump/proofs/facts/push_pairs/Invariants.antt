use Rattle.std.proofs.Common.{◌≡◌, ◌++◌, length}
use Rattle.std.specs.Prelude.{map}
use Rattle.omf_placement.specs.Weak.{indices, paired}
use Rattle.omf_dump.specs.Names.{weak_of}
use Rattle.omf_dump.proofs.facts.push_pairs.Given as goal

-- the externals so far, and those of the text that is left
abbrev pub invariant-loop-pair : goal.invariant-loop-pair
invariant-loop-pair l = l.externals.items ++ map weak_of (paired (indices l.rest)) ≡ l.fn.externals.items ++ map weak_of (paired (indices l.fn.text))

abbrev pub decreases-loop-pair : goal.decreases-loop-pair
decreases-loop-pair l = length l.rest
