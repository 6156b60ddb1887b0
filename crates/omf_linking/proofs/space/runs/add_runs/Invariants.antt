use Rattle.std.proofs.Common.{◌≤◌, ◌-◌, length, drop}
use Rattle.std.specs.Prelude.{All}
use Rattle.omf_image.specs.Inner.Joined.{runs_of}
use Rattle.omf_linking.specs.Space.Memory.{Lies}
use Rattle.omf_linking.specs.Space.Segments.{segment_at}
use Rattle.omf_linking.proofs.SpaceLaws.RunSteps.{SoFar}
use Rattle.omf_linking.proofs.space.runs.add_runs.Given as goal

-- the runs so far were added
abbrev pub invariant-loop-first : goal.invariant-loop-first
invariant-loop-first l = let runs = runs_of l.segment.image.now l.segment.owner.segment in record {
  within : l.k ≤ length runs;
  lies : All Lies l.stretches.items;
  added : SoFar l.initial.stretches.items (segment_at l.segment) (drop l.k runs) l.stretches.items;
}

abbrev pub decreases-loop-first : goal.decreases-loop-first
decreases-loop-first l = length (runs_of l.segment.image.now l.segment.owner.segment) - l.k
