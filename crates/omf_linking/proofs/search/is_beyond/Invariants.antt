use Rattle.std.proofs.Common.{◌≤◌, ◌-◌, length, drop}
use Rattle.omf_image.specs.Inner.Joined.{runs_of}
use Rattle.omf_linking.specs.Space.Segments.{segment_at}
use Rattle.omf_linking.proofs.SpaceLaws.SearchLaws.{SomeSoFar}
use Rattle.omf_linking.proofs.search.is_beyond.Given as goal

-- the runs so far have addresses
abbrev pub invariant-loop-first : goal.invariant-loop-first
invariant-loop-first l = let runs = runs_of l.segment.image.now l.segment.owner.segment in record {
  within : l.k ≤ length runs;
  so_far : SomeSoFar (segment_at l.segment) (drop l.k runs);
}

abbrev pub decreases-loop-first : goal.decreases-loop-first
decreases-loop-first l = length (runs_of l.segment.image.now l.segment.owner.segment) - l.k
