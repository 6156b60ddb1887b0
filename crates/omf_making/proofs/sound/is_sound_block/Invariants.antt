use Rattle.std.proofs.Common.{ℕ, ◌<◌}
use Rattle.std.specs.Prelude.{slice_index}
use Rattle.omf_making.specs.Made.{IsSoundEntry, opened_seen}
use Rattle.omf_making.proofs.sound.is_sound_block.Given as goal

-- the buckets so far are sound, and so is what the last of them has
abbrev pub invariant-loop-bucket : goal.invariant-loop-bucket
invariant-loop-bucket l = record {
  so_far : (i : ℕ) → i < l.bucket → IsSoundEntry (opened_seen l.opened) l.block (slice_index l.block i);
  same : IsSoundEntry (opened_seen l.opened) l.block l.last;
}
