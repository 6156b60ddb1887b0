use Rattle.std.proofs.Common.{◌≡◌, ◌++◌, drop}
use Rattle.omf_linking.specs.Inner.Turning.{spots}
use Rattle.omf_linking.proofs.turns.spots_of.Given as goal

-- the extents so far, and those of the intervals that are left
abbrev pub invariant-loop-interval : goal.invariant-loop-interval
invariant-loop-interval l = l.extents.items ++ spots (drop l.interval-index l.intervals) ≡ spots l.intervals
