use Rattle.std.proofs.Common.{take}
use Rattle.std.specs.List.{AllZip}
use Rattle.omf_finding.specs.Near.{HasNear}
use Rattle.omf_finding.proofs.nearing.nearest.Given as goal

-- the modules so far
abbrev pub invariant-loop-module : goal.invariant-loop-module
invariant-loop-module l = AllZip (HasNear l.program l.most) (take l.module-index l.modules) l.nears.items
