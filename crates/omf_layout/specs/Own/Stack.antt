-- The module that gives a program a stack (TIS OMF 1.1, "SEGDEF", combine type 5).
use Rattle.std.specs.Prelude.{ℕ, List, [], ◌∷◌, codes}
use Rattle.omf_records.specs.Values.{Rec}
use Rattle.omf_layout.specs.Own.Written.{header, name_record, segment_record, end_record}

-- A segment STACK of class STACK, paragraph-aligned, of the combine type stack.
abbrev pub stack_records : ℕ → List Rec
stack_records size = header (codes "stack") ∷ name_record [] ∷ name_record (codes "STACK") ∷ segment_record 0x74 size 2 2 ∷ end_record ∷ []
