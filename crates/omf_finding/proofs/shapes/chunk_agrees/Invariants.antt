use Rattle.std.proofs.Common.{◌≡◌, take}
use Rattle.omf_finding.specs.Inner.Shaping.{cells_agree}
use Rattle.omf_finding.proofs.shapes.chunk_agrees.Given as goal

-- what the bytes so far show
abbrev pub invariant-loop-at : goal.invariant-loop-at
invariant-loop-at l = l.agree ≡ cells_agree (take l.at l.values) (take l.at l.marks) (take l.at l.program)
