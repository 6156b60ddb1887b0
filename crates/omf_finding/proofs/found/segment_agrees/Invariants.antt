use Rattle.std.proofs.Common.{◌≤◌, ◌-◌, length, drop}
use Rattle.omf_image.specs.Inner.Joined.{runs_of}
use Rattle.omf_finding.proofs.FoundLaws.{LeftAgree}
use Rattle.omf_finding.proofs.found.segment_agrees.Given as goal

-- the runs so far agree
abbrev pub invariant-loop-first : goal.invariant-loop-first
invariant-loop-first l = record {
  within : l.k ≤ length (runs_of l.image l.segment);
  left : LeftAgree l.program l.base l.image l.segment l.address (drop l.k (runs_of l.image l.segment));
}

abbrev pub decreases-loop-first : goal.decreases-loop-first
decreases-loop-first l = length (runs_of l.image l.segment) - l.k
