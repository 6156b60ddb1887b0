use Rattle.std.proofs.Common.{◌≡◌, ◌-◌, ◌^◌, length, min, take}
use Rattle.std.specs.Prelude.{flat_map}
use Rattle.omf_finding.specs.Inner.Measuring.{fresh_in}
use Rattle.omf_finding.proofs.shapes.count_varied.Given as goal

-- those of the intervals so far
abbrev pub invariant-loop-interval : goal.invariant-loop-interval
invariant-loop-interval l = l.varied ≡ min (length (flat_map fresh_in (take l.interval-index l.intervals))) (2 ^ 64 - 1)
