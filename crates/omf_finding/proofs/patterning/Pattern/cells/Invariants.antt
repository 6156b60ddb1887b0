use Rattle.std.proofs.Common.{◌≡◌}
use Rattle.omf_finding.specs.Inner.Walking.{byte_in}
use Rattle.omf_finding.specs.Run.{cells}
use Rattle.omf_finding.proofs.patterning.Pattern.cells.Given as goal

-- the bytes so far
abbrev pub invariant-loop-i : goal.invariant-loop-i
invariant-loop-i l = l.cells.items ≡ cells (byte_in l.self l.segment) l.run.first l.i
