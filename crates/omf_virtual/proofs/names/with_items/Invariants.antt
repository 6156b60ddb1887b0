use Rattle.std.proofs.Common.{◌≡◌, ◌≤◌, ◌+◌, length}
use Rattle.omf_virtual.proofs.names.with_items.Given as goal

-- the names so far, and those to come
abbrev pub invariant-loop-item : goal.invariant-loop-item
invariant-loop-item l = record {
  all : l.sum + length l._item-iterator ≡ l.count + length l.fn.items;
  few : l.sum ≤ 32767;
}
