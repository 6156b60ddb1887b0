use Rattle.std.proofs.Common.{◌≡◌, ◌≤◌, ◌+◌, ◌*◌, ◌-◌, length, drop}
use Rattle.omf_frame.specs.Types.{width_bytes}
use Rattle.omf_image.specs.Inner.Lengths.{len_block, len_times}
use Rattle.omf_image.proofs.length.+lengths.Given as goal

abbrev pub decreases-contents_len : goal.decreases-contents_len
decreases-contents_len l = 2 * l.levels + 1

abbrev pub decreases-block_len : goal.decreases-block_len
decreases-block_len l = 2 * l.levels

-- the blocks read and the remaining ones are all the blocks
abbrev pub invariant-contents_len-loop : goal.invariant-contents_len-loop
invariant-contents_len-loop l = record {
  from : l.start ≤ l.end;
  to : l.end ≤ length l.bytes;
  same : len_times (len_block (width_bytes l.width) l.levels) (l.blocks - l.counter) l.inner l.end (drop l.end l.bytes)
      ≡ len_times (len_block (width_bytes l.width) l.levels) l.blocks 0 l.start (drop l.start l.bytes);
}
