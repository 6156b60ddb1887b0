use Rattle.omf_finding.specs.Inner.Agreeing.{ComparedBelow}
use Rattle.omf_finding.proofs.found.some_compared.Given as goal

-- none of the segments so far has a byte that is compared
abbrev pub invariant-loop-n : goal.invariant-loop-n
invariant-loop-n l = ComparedBelow l.image l.absent l.n → ⊥
