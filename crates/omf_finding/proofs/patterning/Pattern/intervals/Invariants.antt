use Rattle.std.proofs.Common.{◌-◌, length}
use Rattle.omf_image.specs.Inner.Joined.{runs_of}
use Rattle.omf_finding.proofs.IntervalLaws.{AreFirst}
use Rattle.omf_finding.proofs.patterning.Pattern.intervals.Given as goal

-- the intervals so far
abbrev pub invariant-loop-interval : goal.invariant-loop-interval
invariant-loop-interval l = AreFirst l.self l.segment l.k l.intervals.items

abbrev pub decreases-loop-interval : goal.decreases-loop-interval
decreases-loop-interval l = length (runs_of l.self.values l.segment) - l.k
