-- Definitions for the worked examples.
use Rattle.std.specs.Prelude.{ℕ, List, [], ◌∷◌, ◌++◌, flat_map, codes, Result, Ok, Err}
use Rattle.omf_image.specs.Limits.{profile_limits}
use Rattle.omf_reloc.specs.declared.fault.ReachFault.{ReachFault}
use Rattle.omf_reloc.specs.Modules.{module_of}
use Rattle.omf_cmd.specs.declared.fault.RunFault.{RunFault}
use Rattle.omf_cmd.specs.declared.fault.RunFault.TheVariants as fault
use Rattle.omf_cmd.specs.Outcome.{reloc_outcome}

-- lines, each with its line feed
abbrev pub lines : List (List ℕ) → List ℕ
lines ls = flat_map (λ l. l ++ 10 ∷ []) ls

-- What `reloc` answers for a module and the lines of a text.
abbrev pub relocating : List ℕ → List (List ℕ) → Result (List ℕ) RunFault
relocating bytes text = reloc_outcome profile_limits (module_of bytes) (lines text)

abbrev pub prints : List (List ℕ) → Result (List ℕ) RunFault
prints ls = Ok (lines ls)

abbrev pub not_reached : ReachFault → Result (List ℕ) RunFault
not_reached f = Err (fault.Reach f)

-- the segment of the first module, at 10020H in a frame of base 10000H
abbrev pub low_line : List ℕ
low_line = codes "S 10020 10000 1000"
