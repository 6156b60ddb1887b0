use Rattle.std.proofs.Common.{◌≡◌, ◌≤◌, ◌-◌, length, drop}
use Rattle.omf_frame.specs.Types.{width_bytes}
use Rattle.omf_lowering.specs.Inner.Turns.{found_all, found_block, nothing}
use Rattle.omf_lowering.proofs.spreading.spread_all.Given as goal

-- the blocks read and the remaining ones are all the blocks
abbrev pub invariant-loop-pos : goal.invariant-loop-pos
invariant-loop-pos l = record {
  inside : l.pos ≤ length l.search.bytes.now;
  same : found_all l.search.location (found_block l.search.location (width_bytes l.search.width) 64) (length l.search.bytes.now) l.all l.pos (drop l.pos l.search.bytes.now)
      ≡ found_all l.search.location (found_block l.search.location (width_bytes l.search.width) 64) (length l.search.bytes.now) nothing 0 l.search.bytes.now;
}

abbrev pub decreases-loop-pos : goal.decreases-loop-pos
decreases-loop-pos l = length l.search.bytes.now - l.pos
