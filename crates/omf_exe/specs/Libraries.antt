-- The libraries that the modules of a program ask for (TIS OMF 1.1, "COMENT", class 9F: default library search name).
use Rattle.std.specs.Prelude.{ℕ, List, [], ◌∷◌, ◌++◌, codes, filter, map, not}
use Rattle.std.specs.Char.{to_ascii_lowercase, to_ascii_uppercase}
use Rattle.omf_check.specs.Module.{Module}
use Rattle.omf_placement.specs.Quoted.{quoted}
use Rattle.omf_library.specs.Defaults.{asked}
use Rattle.omf_library.specs.Needed.{has_name}

-- The names that modules ask for, in order, each once, without those that are known.
abbrev pub sought : List (List ℕ) → List Module → List (List ℕ)
sought known ms = filter (λ name. not (has_name known name)) (asked ms)

-- The line of one that is not found.
abbrev pub missing_line : List ℕ → List ℕ
missing_line name = codes "library " ++ (quoted name ++ (codes " is not found" ++ 10 ∷ []))

-- The names of files under which a library is looked for, in order (this profile's rule): its name and its name with .lib, as it is written, in lower case, in
-- upper case.
abbrev pub with_lib : List ℕ → List (List ℕ)
with_lib name = name ∷ (name ++ codes ".lib") ∷ []

abbrev pub library_files : List ℕ → List (List ℕ)
library_files name =
    with_lib name ++ (with_lib (map to_ascii_lowercase name) ++ (map to_ascii_uppercase name ∷ (map to_ascii_uppercase name ++ codes ".LIB") ∷ []))
