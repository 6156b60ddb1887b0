use Rattle.std.proofs.Common.{◌≡◌, ◌≤◌, ◌-◌, length, drop}
use Rattle.omf_frame.specs.Types.{width_bytes}
use Rattle.omf_image.specs.Inner.Lengths.{len_block, len_all}
use Rattle.omf_image.proofs.length.blocks_len.Given as goal

-- the blocks counted and the remaining ones are all the blocks
abbrev pub invariant-loop-pos : goal.invariant-loop-pos
invariant-loop-pos l = record {
  inside : l.pos ≤ length l.bytes;
  same : len_all (len_block (width_bytes l.width) l.levels) (length l.bytes) l.total l.pos (drop l.pos l.bytes)
      ≡ len_all (len_block (width_bytes l.width) l.levels) (length l.bytes) 0 0 l.bytes;
}

abbrev pub decreases-loop-pos : goal.decreases-loop-pos
decreases-loop-pos l = length l.bytes - l.pos
