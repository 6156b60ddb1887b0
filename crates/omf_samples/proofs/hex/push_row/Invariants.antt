use Rattle.std.proofs.Common.{◌≡◌, ◌+◌, length}
use Rattle.omf_samples.specs.Hex.{row_after}
use Rattle.omf_samples.proofs.hex.push_row.Given as goal

-- the bytes so far, and then those of the rest of the row, are the row's
abbrev pub invariant-loop-first : goal.invariant-loop-first
invariant-loop-first l = record {
  reads : row_after l.bytes.items l.at l.left ≡ row_after l.initial.bytes.items 0 l.row;
  offset : l.at + length l.left ≡ length l.row;
}

abbrev pub decreases-loop-first : goal.decreases-loop-first
decreases-loop-first l = length l.left
