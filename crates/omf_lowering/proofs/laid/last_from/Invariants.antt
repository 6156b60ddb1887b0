use Rattle.std.proofs.Common.{◌≡◌, ◌≤◌, [], length, drop}
use Rattle.std.specs.List.{filter}
use Rattle.omf_lowering.specs.Patches.{has_byte_of}
use Rattle.omf_lowering.proofs.laid.last_from.Given as goal

-- none of the data from here on has a byte of the location
abbrev pub invariant-loop-left : goal.invariant-loop-left
invariant-loop-left l = record {
  low : l.from ≤ l.left;
  inside : l.left ≤ length l.pieces;
  none : filter (has_byte_of l.segment l.offset l.size) (drop l.left l.pieces) ≡ [];
}

abbrev pub decreases-loop-left : goal.decreases-loop-left
decreases-loop-left l = l.left
