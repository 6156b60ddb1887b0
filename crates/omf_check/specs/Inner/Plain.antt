-- The fault of an LEDATA: that of its layout, else the first of its rules.
use Rattle.std.specs.Prelude.{◌-◌, [], ◌∷◌, length, Option, Some, Result, Ok, Err}
use Rattle.omf_frame.specs.Fault.{Fault}
use Rattle.omf_records.specs.Values.{DataItem}
use Rattle.omf_check.specs.Rules.{item_limit}
use Rattle.omf_check.specs.Inner.Kept.{Kept}
use Rattle.omf_check.specs.Inner.Judging.{lesser, room_fault, data_fault}

abbrev pub plain_fault : Kept → Result DataItem Fault → Option Fault
plain_fault kept (Ok d) = lesser (room_fault (item_limit - kept.items) (0 ∷ [])) (data_fault kept d.segment d.offset (length d.bytes))
plain_fault kept (Err f) = Some f
