-- The bytes of a memory as text (a rule of this profile).
use Rattle.std.specs.Prelude.{ℕ, List, [], ◌∷◌, ◌++◌, flat_map, Option, codes}
use Rattle.omf_image.specs.declared.run.Run.{Run}
use Rattle.omf_placement.specs.Quoted.{hex}
use Rattle.omf_cmd.specs.Relocated.{run_lines}
use Rattle.std.specs.Option.{option_map_or}

-- An address: eight hexadecimal digits and a colon.
abbrev pub address_text : ℕ → List ℕ
address_text address = hex 8 address ++ 58 ∷ []

-- The runs of a memory in rising order, each in lines of 16 bytes from its first byte on. The last line may be shorter.
abbrev pub memory_text : (ℕ → Option ℕ) → List Run → List ℕ
memory_text byte runs = flat_map (run_lines address_text byte) runs

-- The same, followed by the line of the start address, if there is one.
abbrev pub image_text : (ℕ → Option ℕ) → List Run → Option (ℕ × ℕ) → List ℕ
image_text byte runs start = memory_text byte runs ++ option_map_or (λ f. codes "START " ++ hex 4 f.0 ++ 58 ∷ hex 8 f.1 ++ 10 ∷ []) start []
