use Rattle.std.proofs.Common.{◌≡◌, ◌++◌}
use Rattle.omf_records.specs.Values.{Externs}
use Rattle.omf_layout.specs.Wants.{rooms_in}
use Rattle.omf_layout.proofs.wants.add_externs.Given as goal

-- those of the names so far, and those that are left
abbrev pub invariant-loop-item : goal.invariant-loop-item
invariant-loop-item l = l.rooms.items ++ rooms_in (Externs l._item-iterator) ≡ l.fn.rooms.items ++ rooms_in (Externs l.fn.items)
