use Rattle.std.proofs.Common.{List, ℕ, ◌++◌}
use Rattle.std.specs.Prelude.{map}
use Rattle.omf_find.specs.Nearly.{IsBefore, place}
use Rattle.omf_find.proofs.NearlyLaws.{IsSoFar}
use Rattle.omf_find.proofs.near.later_of.Given as goal

-- the best one so far, with the publics that are left
abbrev pub invariant-loop-public : goal.invariant-loop-public
invariant-loop-public l = (ps : List (ℕ × List ℕ)) → IsBefore l.offset ps l.fn.best → IsSoFar l.offset l.best (map place l.public-iterator) (ps ++ map place l.fn.publics)
