use Rattle.std.proofs.Common.{◌≡◌, ℕ, take}
use Rattle.std.specs.Prelude.{All}
use Rattle.omf_linking.specs.Space.Memory.{Lies, pieces, shares}
use Rattle.omf_linking.specs.Space.Segments.{IsWithin, segment_shares, segments_at}
use Rattle.omf_linking.proofs.space.runs.stretches_of.Given as goal

-- the segments so far were added
abbrev pub invariant-loop-segment : goal.invariant-loop-segment
invariant-loop-segment l = let done = segments_at (take l.segment-index l.segments) in record {
  lies : All Lies l.stretches.items;
  within : All IsWithin done;
  added : (a : ℕ) → shares (pieces l.stretches.items) a ≡ segment_shares done a;
}
