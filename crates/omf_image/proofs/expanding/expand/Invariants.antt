use Rattle.std.proofs.Common.{◌≡◌, ◌≤◌, ◌+◌, ◌-◌, [], length, drop}
use Rattle.omf_frame.specs.Types.{width_bytes}
use Rattle.omf_image.specs.Inner.Lengths.{capped}
use Rattle.omf_image.specs.Inner.Copying.{bytes_block, bytes_all}
use Rattle.omf_image.proofs.expanding.expand.Given as goal

-- the blocks written and the remaining ones are all the blocks
abbrev pub invariant-loop-pos : goal.invariant-loop-pos
invariant-loop-pos l = record {
  inside : l.pos ≤ length l.source.bytes.now;
  same : bytes_all (bytes_block (width_bytes l.source.width) l.limits.nesting) (length l.source.bytes.now) l.copier.out.items l.pos (drop l.pos l.source.bytes.now)
      ≡ bytes_all (bytes_block (width_bytes l.source.width) l.limits.nesting) (length l.source.bytes.now) [] 0 l.source.bytes.now;
  least : capped (l.pos + length l.copier.out.items) ≤ l.copier.moved;
  most : l.copier.moved ≤ l.pos + length l.copier.out.items;
}

abbrev pub decreases-loop-pos : goal.decreases-loop-pos
decreases-loop-pos l = length l.source.bytes.now - l.pos
