use Rattle.std.proofs.Common.{◌≡◌, ◌++◌, drop}
use Rattle.omf_layout.specs.Own.Order.{in_part}
use Rattle.omf_layout.proofs.own.slots.add_part.Given as goal

-- the segments so far, and those that are left
abbrev pub invariant-loop-slot : goal.invariant-loop-slot
invariant-loop-slot l = l.ordered.items ++ in_part l.part (drop l.slot-index l.slots) ≡ l.fn.ordered.items ++ in_part l.part l.slots
