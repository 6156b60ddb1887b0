use Rattle.std.proofs.Common.{◌≤◌, ◌-◌, length, drop}
use Rattle.omf_image.specs.Inner.Joined.{runs_of}
use Rattle.omf_linking.specs.Space.Segments.{segment_at, segment_shares}
use Rattle.omf_linking.specs.Inner.Searching.{listed}
use Rattle.omf_linking.proofs.SpaceLaws.SearchLaws.{Begun}
use Rattle.omf_linking.proofs.search.overlap_in.Given as goal

-- where the runs so far begin no two segments overlap
abbrev pub invariant-loop-first : goal.invariant-loop-first
invariant-loop-first l = let runs = runs_of l.segment.image.now l.segment.owner.segment in record {
  within : l.k ≤ length runs;
  begun : Begun (segment_shares (listed l.segments)) (segment_at l.segment) (drop l.k runs);
}

abbrev pub decreases-loop-first : goal.decreases-loop-first
decreases-loop-first l = length (runs_of l.segment.image.now l.segment.owner.segment) - l.k
