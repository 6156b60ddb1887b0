use Rattle.omf_finding.specs.Inner.Agreeing.{FirstAgree}
use Rattle.omf_finding.proofs.found.image_agrees.Given as goal

-- the segments so far agree
abbrev pub invariant-loop-n : goal.invariant-loop-n
invariant-loop-n l = FirstAgree l.image l.places l.absent l.program l.base l.n
