use Rattle.std.proofs.Common.{◌≡◌, ◌++◌, take}
use Rattle.std.specs.Prelude.{filter_map}
use Rattle.omf_check.specs.Module.{recs_of}
use Rattle.omf_finding.specs.Chain.{enough}
use Rattle.omf_finding.specs.Inner.Singling.{single_with}
use Rattle.omf_finding.proofs.singles.add_all.Given as goal

-- those so far
abbrev pub invariant-loop-shape : goal.invariant-loop-shape
invariant-loop-shape l = l.all.items ≡ l.fn.all.items ++ filter_map (λ s. single_with l.owner (enough l.least (recs_of l.module.bytes) s.segment) s) (take l.shape-index l.shapes)
