-- Why there is no module for DOS order.
use Rattle.std.specs.Prelude.{⊤, ◌<◌, List, length}
use Rattle.omf_records.specs.Values.{Rec}
use Rattle.omf_layout.specs.declared.own.order.OrderFault.{OrderFault}
use Rattle.omf_layout.specs.declared.own.order.OrderFault.TheVariants as fault
use Rattle.omf_layout.specs.Own.Communals.{are_grouped}
use Rattle.omf_layout.specs.Own.Order.{dos_slots, slots}

-- It has more than 16,383 segments. Memory may run out at any time.
abbrev pub IsOrderFault : List (List Rec) → OrderFault → Type 0
IsOrderFault ms fault.Memory = ⊤
IsOrderFault ms fault.TooMany = 16383 < length (dos_slots (are_grouped ms) (slots ms))
