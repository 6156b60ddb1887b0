-- Definitions for the worked examples of DOS order.
use Rattle.std.specs.Prelude.{List, [], ◌∷◌, codes}
use Rattle.omf_records.specs.Values.{Rec}
use Rattle.omf_layout.specs.Own.Written.{group_record, name_record, raise_record, segment_record}

-- A module with the names DATA, CODE, BSS, STACK and DGROUP at the indices 1 to 5, and a segment of each of these classes: 3 bytes of BSS, 4 of DATA, 8 of STACK, 2 of CODE.
-- The first three are in DGROUP.
abbrev pub program : List Rec
program =
    name_record (codes "DATA") ∷ name_record (codes "CODE") ∷ name_record (codes "BSS") ∷ name_record (codes "STACK") ∷ name_record (codes "DGROUP")
    ∷ segment_record 0x48 3 3 3 ∷ segment_record 0x48 4 1 1 ∷ segment_record 0x74 8 4 4 ∷ segment_record 0x28 2 2 2
    ∷ group_record 5 1 ∷ group_record 5 2 ∷ group_record 5 3 ∷ []

-- A module with the name CODE and a segment of 2 bytes in that class, which a comment raises.
abbrev pub raised_program : List Rec
raised_program = name_record (codes "CODE") ∷ segment_record 0x88 2 1 1 ∷ raise_record 1 ∷ []
