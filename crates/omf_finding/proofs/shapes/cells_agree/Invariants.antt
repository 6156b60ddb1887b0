use Rattle.std.proofs.Common.{◌≡◌, length}
use Rattle.omf_finding.specs.Inner.Shaping.{cells_agree}
use Rattle.omf_finding.proofs.shapes.cells_agree.Given as goal

-- all agree if the bytes that are left agree
abbrev pub invariant-loop-left : goal.invariant-loop-left
invariant-loop-left l = cells_agree l.left l.left_marks l.there ≡ cells_agree l.values l.marks l.program

abbrev pub decreases-loop-left : goal.decreases-loop-left
decreases-loop-left l = length l.left
