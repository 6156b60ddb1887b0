-- Files whose names are given without their ending (this profile's rule). Which of them are there is the system's answer.
use Rattle.std.specs.Prelude.{◌≡◌, ◌⊎◌, ℕ, List, [], ◌∷◌, ◌++◌, map, Bool, codes, bytes_eq, if◌then◌else◌}
use Rattle.std.specs.Char.{to_ascii_lowercase}
use Rattle.std.specs.List.{list_any}
use Rattle.omf_host.specs.Outputs.{is_standard}

-- Whether a path is a name in a folder with one of the endings.
abbrev pub is_with : List ℕ → List ℕ → List (List ℕ) → List ℕ → Bool
is_with front name endings path = list_any (λ e. bytes_eq path (front ++ name ++ e)) endings

-- Whether a path is that of a file of modules with this name, which may lack its ending; `-` is the standard input.
abbrev pub is_object_file : List ℕ → List ℕ → Bool
is_object_file name path = if is_standard name then bytes_eq path name else is_with [] name ([] ∷ codes ".obj" ∷ codes ".OBJ" ∷ []) path

-- A name without its case (that of ASCII letters).
abbrev pub folded : List ℕ → List ℕ
folded name = map to_ascii_lowercase name

-- A file has the name of a library, or its name with `.lib`, in any case.
abbrev pub IsNamed : List ℕ → List ℕ → Type 0
IsNamed file library = (folded file ≡ folded library) ⊎ (folded file ≡ folded library ++ codes ".lib")
