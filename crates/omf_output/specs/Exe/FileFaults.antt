-- Why a program has no MZ file (the MZ format has 16 bits for the number of relocation entries; DOS has a memory of 2^20 bytes).
use Rattle.std.specs.Prelude.{◌≡◌, ◌+◌, ◌^◌, length, find, nat_lt, Option, Some, None, option_map, if◌then◌else◌}
use Rattle.omf_output.specs.declared.exe.file.FileFault.{FileFault}
use Rattle.omf_output.specs.declared.exe.file.FileFault.TheVariants as fault
use Rattle.omf_output.specs.Exe.Exe.{Program}

-- The first reason, if there is one.
abbrev pub file_fault : Program → Option FileFault
file_fault p =
    if nat_lt 65535 (length p.words) then Some fault.TooMany
    else (if nat_lt (2 ^ 20) (length p.image) then Some fault.TooLong
    else option_map fault.Outside (find (λ at. nat_lt (length p.image) (at + 2)) p.words))

-- A fault is the first reason; or Memory, only if there is none.
abbrev pub IsFileFault : Program → FileFault → Type 0
IsFileFault p fault.Memory = file_fault p ≡ None
IsFileFault p f = file_fault p ≡ Some f
