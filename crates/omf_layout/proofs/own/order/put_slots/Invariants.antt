use Rattle.std.proofs.Common.{◌≡◌, ◌++◌, drop}
use Rattle.omf_layout.specs.Own.Order.{slots_records}
use Rattle.omf_layout.specs.Own.Written.{written}
use Rattle.omf_layout.proofs.own.order.put_slots.Given as goal

-- the segments so far, and those that are left
abbrev pub invariant-loop-slot : goal.invariant-loop-slot
invariant-loop-slot l = record {
  same : l.out.items ++ written (slots_records l.before (drop l.slot-index l.slots)) ≡ l.fn.out.items ++ written (slots_records 0 l.slots);
  count : l.before ≡ l.slot-index;
}
