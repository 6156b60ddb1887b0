use Rattle.std.proofs.Common.{◌≡◌, ◌++◌, drop}
use Rattle.omf_linking.specs.Space.Memory.{pieces}
use Rattle.omf_linking.specs.Inner.Sweeping.{intervals}
use Rattle.omf_linking.proofs.space.sweep.add_intervals.Given as goal

-- the intervals so far, and those of the stretches that are left
abbrev pub invariant-loop-stretch : goal.invariant-loop-stretch
invariant-loop-stretch l = l.spans.items ++ intervals (pieces (drop l.stretch-index l.stretches)) ≡ l.initial.spans.items ++ intervals (pieces l.stretches)
