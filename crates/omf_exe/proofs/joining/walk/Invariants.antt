use Rattle.std.proofs.Common.{◌≡◌, ◌+◌, ◌++◌, length}
use Rattle.std.specs.Vec.Iter.{into_iter_items}
use Rattle.omf_exe.specs.Inner.Taking.{walked}
use Rattle.omf_exe.proofs.joining.walk.Given as goal

-- the values so far that are at the numbers, and those of the values that are left
abbrev pub invariant-loop-value : goal.invariant-loop-value
invariant-loop-value g l = record {
  so_far : l.all.items ++ walked l.number l.left (into_iter_items l.value-iterator) ≡ l.fn.all.items ++ walked 0 l.numbers l.fn.values.items;
  counted : l.number + length (into_iter_items l.value-iterator) ≡ length l.fn.values.items;
}
