use Rattle.std.proofs.Common.{◌≡◌, ◌≤◌, ◌+◌, ◌*◌, ◌-◌, length, drop}
use Rattle.omf_frame.specs.Types.{width_bytes}
use Rattle.omf_lowering.specs.Inner.Turns.{found_block, found_times, nothing}
use Rattle.omf_lowering.proofs.spreading.+spreading.Given as goal

abbrev pub decreases-contents_at : goal.decreases-contents_at
decreases-contents_at l = 2 * l.levels + 1

abbrev pub decreases-block_at : goal.decreases-block_at
decreases-block_at l = 2 * l.levels

-- the blocks read and the remaining ones are all the blocks
abbrev pub invariant-contents_at-loop : goal.invariant-contents_at-loop
invariant-contents_at-loop l = record {
  from : l.start ≤ l.end;
  to : l.end ≤ length l.search.bytes.now;
  same : found_times l.search.location (found_block l.search.location (width_bytes l.search.width) l.levels) (l.blocks - l.counter) l.inner l.end (drop l.end l.search.bytes.now)
      ≡ found_times l.search.location (found_block l.search.location (width_bytes l.search.width) l.levels) l.blocks nothing l.start (drop l.start l.search.bytes.now);
}
