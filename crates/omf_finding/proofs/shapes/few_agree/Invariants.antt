use Rattle.std.proofs.Common.{◌≡◌, take, true}
use Rattle.omf_finding.specs.Inner.Shaping.{cells_agree}
use Rattle.omf_finding.proofs.shapes.few_agree.Given as goal

-- the bytes so far agree
abbrev pub invariant-loop-at : goal.invariant-loop-at
invariant-loop-at l = cells_agree (take l.at l.values) (take l.at l.marks) (take l.at l.program) ≡ true
