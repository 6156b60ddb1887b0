use Rattle.std.proofs.Common.{◌≡◌, ◌+◌, ◌++◌, [], length}
use Rattle.std.specs.Prelude.{true}
use Rattle.omf_dump.specs.Blocks.{blocks_from}
use Rattle.omf_dump.specs.Render.{items_text}
use Rattle.omf_dump.proofs.blocks.put_blocks.Given as goal

-- what is written, and the blocks that are left, are all blocks
abbrev pub invariant-loop-front : goal.invariant-loop-front
invariant-loop-front l = record {
  written : l.text.items ++ items_text l.format l.is_first (blocks_from l.width l.at l.around.items 0 l.rest) ≡ l.fn.text.items ++ items_text l.format true (blocks_from l.width l.within [] 0 l.fn.blocks.bytes.now);
  ends : l.at + length l.rest ≡ l.within + length l.fn.blocks.bytes.now;
}

abbrev pub decreases-loop-front : goal.decreases-loop-front
decreases-loop-front l = length l.rest
