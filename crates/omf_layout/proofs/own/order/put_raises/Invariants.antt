use Rattle.std.proofs.Common.{◌≡◌, ◌+◌, ◌++◌, drop, map}
use Rattle.omf_layout.specs.Own.Order.{raise_records}
use Rattle.omf_layout.specs.Own.Written.{raisings, written}
use Rattle.omf_layout.proofs.own.order.put_raises.Given as goal

-- the comments so far, and those that are left
abbrev pub invariant-loop-slot : goal.invariant-loop-slot
invariant-loop-slot l = record {
  same : l.out.items ++ written (raisings l.index (map (λ s. s.raised) (drop l.slot-index l.slots))) ≡ l.fn.out.items ++ written (raise_records l.slots);
  count : l.index ≡ l.slot-index + 1;
}
