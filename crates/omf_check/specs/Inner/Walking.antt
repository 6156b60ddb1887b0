-- The result of one pass over the subrecords of a FIXUPP: the fault of their layout, else the first fault of their rules.
use Rattle.std.specs.Prelude.{ℕ, ◌-◌, List, [], ◌∷◌, length, Option, Some, None, Result, Ok, Err}
use Rattle.omf_frame.specs.Fault.{Fault}
use Rattle.omf_records.specs.Values.{At, Subrecord, Fixups}
use Rattle.omf_check.specs.Rules.{item_limit, item_places, places}
use Rattle.omf_check.specs.Inner.Kept.{Kept}
use Rattle.omf_check.specs.declared.last_data.LastData.{LastData}
use Rattle.omf_check.specs.declared.last_data.LastData.TheVariants as last
use Rattle.omf_check.specs.Inner.Judging.{lesser, room_fault, subrecords_fault}

abbrev pub walk_fault : Kept → Result (List (At Subrecord)) Fault → Option Fault
walk_fault kept (Ok subs) = lesser (room_fault (item_limit - kept.items) (places subs)) (subrecords_fault kept kept.threads subs)
walk_fault kept (Err f) = Some f

-- a FIXUPP without subrecords is one item
abbrev pub fixups_fault : Kept → Result (List (At Subrecord)) Fault → Option Fault
fixups_fault kept (Ok subs) = lesser (room_fault (item_limit - kept.items) (item_places (Fixups subs))) (subrecords_fault kept kept.threads subs)
fixups_fault kept (Err f) = Some f

-- the numbers of entries of the tables, by the number of a target method; there is no method 3
abbrev pub table_counts : Kept → List ℕ
table_counts kept = length kept.segments ∷ length kept.groups ∷ length kept.externals ∷ 0 ∷ []

-- the number of bytes of the last data record that fixups may change
abbrev pub plain_length : Option LastData → ℕ
plain_length (Some (last.Plain n)) = n
plain_length (Some last.Iterated) = 0
plain_length None = 0
