use Rattle.std.proofs.Common.{◌≡◌, length}
use Rattle.omf_dump.specs.Blocks.{not_ended}
use Rattle.omf_dump.proofs.blocks.end_blocks.Given as goal

-- the blocks that are not ended are the same
abbrev pub invariant-loop-around : goal.invariant-loop-around
invariant-loop-around l = not_ended l.around.items ≡ not_ended l.fn.around.items

abbrev pub decreases-loop-around : goal.decreases-loop-around
decreases-loop-around l = length l.around.items
