-- The marks of programs that are packed (this profile's rule), and of files after an MZ stub (the NE, LE, LX and PE formats: the offset of their header is at 60).
use Rattle.std.specs.Prelude.{ℕ, ◌+◌, ◌-◌, ◌*◌, ◌==◌, ◌||◌, ◌++◌, List, [], ◌∷◌, drop, length, nat_eq, nat_lt, Bool, false, Option, Some, None, codes, if◌then◌else◌}
use Rattle.std.specs.List.{starts_with}
use Rattle.byteorder.specs.Endian.{little_number}
use Rattle.omf_output.specs.Exe.Loading.{header_size, word}
use Rattle.omf_find.specs.declared.marks.Packer.{Packer}
use Rattle.omf_find.specs.declared.marks.Packer.TheVariants as by
use Rattle.omf_find.specs.declared.marks.Other.{Other}
use Rattle.omf_find.specs.declared.marks.Other.TheVariants as kind

-- The file has these bytes at an offset.
abbrev pub has_at : List ℕ → ℕ → List ℕ → Bool
has_at file at bytes = starts_with nat_eq (drop at file) bytes

-- EXEPACK's code begins 16 or 18 bytes after its own header, whose last word is its mark.
abbrev pub start_in_file : List ℕ → ℕ
start_in_file file = header_size file + 16 * word file 22 + word file 20

abbrev pub is_exepack : List ℕ → Bool
is_exepack file = if (word file 20 == 16) || (word file 20 == 18) then has_at file (start_in_file file - 2) (codes "RB") else false

abbrev pub packer : List ℕ → Option Packer
packer file =
    if has_at file 28 (codes "LZ09") || has_at file 28 (codes "LZ91") then Some by.Lzexe
    else (if has_at file 30 (codes "PKLITE") then Some by.Pklite
    else (if is_exepack file then Some by.Exepack else None))

-- What is at an offset that is not in the stub's header.
abbrev pub other_at : List ℕ → ℕ → Option Other
other_at file at =
    if nat_lt at 64 then None
    else (if has_at file at (codes "NE") then Some kind.Ne
    else (if has_at file at (codes "LE") then Some kind.Le
    else (if has_at file at (codes "LX") then Some kind.Lx
    else (if has_at file at (codes "PE" ++ 0 ∷ 0 ∷ []) then Some kind.Pe else None))))

abbrev pub other : List ℕ → Option Other
other file = if nat_lt (length file) 64 then None else other_at file (little_number 4 (drop 60 file))
