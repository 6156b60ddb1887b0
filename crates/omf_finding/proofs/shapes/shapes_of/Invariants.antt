use Rattle.std.proofs.Common.{take}
use Rattle.std.specs.List.{AllZip}
use Rattle.omf_finding.specs.Inner.Shaping.{HasShapes}
use Rattle.omf_finding.proofs.shapes.shapes_of.Given as goal

-- the modules so far have their shapes
abbrev pub invariant-loop-module : goal.invariant-loop-module
invariant-loop-module l = AllZip (HasShapes l.program l.most) (take l.module-index l.modules) l.shapes.items
