use Rattle.std.proofs.Common.{◌≡◌, take}
use Rattle.std.specs.Prelude.{flat_map}
use Rattle.omf_finding.specs.Inner.Measuring.{closed_in}
use Rattle.omf_finding.proofs.closed.closed_bytes.Given as goal

-- the closed bytes of the intervals so far
abbrev pub invariant-loop-interval : goal.invariant-loop-interval
invariant-loop-interval l = l.closed.items ≡ flat_map closed_in (take l.interval-index l.intervals)
