use Rattle.std.proofs.Common.{◌≡◌, ◌*◌, ◌≤◌, length, take}
use Rattle.std.specs.Prelude.{flat_map}
use Rattle.std.specs.List.{range_with_len}
use Rattle.omf_lowering.specs.Inner.Turns.{further}
use Rattle.omf_lowering.proofs.copies.repeat.Given as goal

-- the offsets of the turns so far; those of the first are in front
abbrev pub invariant-loop-number : goal.invariant-loop-number
invariant-loop-number l = record {
  is : l.offsets.items ≡ flat_map (λ k. further (k * l.turn.size) l.fn.offsets.items) (range_with_len 0 l.number);
  front : take l.len l.offsets.items ≡ l.fn.offsets.items;
  within : l.len ≤ length l.offsets.items;
}
