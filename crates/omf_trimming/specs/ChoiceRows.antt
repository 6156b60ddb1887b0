-- Modules of the worked examples of the choice.
use Rattle.std.specs.Prelude.{ℕ, List, [], ◌∷◌, ◌++◌, codes}
use Rattle.omf_frame.specs.Rows.{hex}
use Rattle.omf_check.specs.Module.{Module}
use Rattle.omf_check.specs.Rows.{F, L, M, any}
use Rattle.omf_trimming.specs.Choice.{left_out}
use Rattle.omf_lowering.specs.Rows.{base, f_data, f_public, f_segment}

-- marks: no match, pick any, same size, exact match
abbrev pub no_match : List ℕ
no_match = hex (codes "88 0A 00 80 DC 43 4F 4D 44 41 54 00 5A")

abbrev pub pick_any : List ℕ
pick_any = hex (codes "88 0A 00 80 DC 43 4F 4D 44 41 54 01 59")

abbrev pub same_size : List ℕ
same_size = hex (codes "88 0A 00 80 DC 43 4F 4D 44 41 54 02 58")

abbrev pub exact_match : List ℕ
exact_match = hex (codes "88 0A 00 80 DC 43 4F 4D 44 41 54 03 57")

-- a THREAD that sets target thread 0 to segment 1, and a fixup of bytes 1 and 2
abbrev pub thread_and_fixup : List ℕ
thread_and_fixup = hex (codes "9C 08 00 00 01 C4 01 04 01 01 90")

-- a module with a COMDAT f with this mark, whose data are B8 00 00, and then data of the segment T with a fixup
abbrev pub with_mark : List ℕ → List ℕ
with_mark mark = base ++ f_segment ++ f_public ++ mark ++ f_data ++ thread_and_fixup ++ L ++ F ++ M

-- the same with the data B8 00 01
abbrev pub with_other_data : List ℕ → List ℕ
with_other_data mark = base ++ f_segment ++ f_public ++ mark ++ hex (codes "A0 07 00 02 00 00 B8 00 01 9E") ++ M

-- the same with a length of 4
abbrev pub with_other_size : List ℕ → List ℕ
with_other_size mark = base ++ hex (codes "99 09 00 48 04 00 00 00 02 01 01 0E") ++ f_public ++ mark ++ f_data ++ M

abbrev pub in_module : List ℕ → Module
in_module bytes = record { bytes = bytes; profile = any }

-- The segments that are left out of a second module.
abbrev pub left_out_after : List ℕ → List ℕ → List ℕ
left_out_after first second = left_out (in_module first ∷ []) (in_module second)
