use Rattle.std.proofs.Common.{◌≡◌, length}
use Rattle.omf_linking.specs.Folded.{folded_names}
use Rattle.omf_linking.proofs.folding.comparing.names_fold.Given as goal

-- the names are the same if what is left of them is
abbrev pub invariant-loop-rest : goal.invariant-loop-rest
invariant-loop-rest l = l.others ≡ folded_names l.left l.rest → l.lower ≡ folded_names 0 l.names

abbrev pub decreases-loop-rest : goal.decreases-loop-rest
decreases-loop-rest l = length l.rest
