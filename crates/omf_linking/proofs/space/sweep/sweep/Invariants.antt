use Rattle.std.proofs.Common.{◌≡◌, drop}
use Rattle.omf_linking.specs.Inner.Sweeping.{swept}
use Rattle.omf_linking.proofs.space.sweep.sweep.Given as goal

-- the sweep over those that are left gives the result of the whole
abbrev pub invariant-loop-interval : goal.invariant-loop-interval
invariant-loop-interval l = swept l.own l.all (drop l.interval-index l.intervals) ≡ swept 0 0 l.intervals
