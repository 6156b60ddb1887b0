-- The arguments of a program that takes options, names of files, and names of a text and of the output (this profile's rule).
use Rattle.std.specs.Prelude.{String, ◌≡◌, ◌⊎◌, ◌≤◌, ℕ, Bool, true, false, not, ◌||◌, ◌==◌, List, [], ◌∷◌, ◌++◌, length, map, flat_map, take, drop, Option, Some, None, option_map, option_to_list, codes, IsSome, if◌then◌else◌, string_bytes}
use Rattle.std.specs.Global.{Global}
use Rattle.std.specs.Str.{bytes_eq}
use Rattle.omf_drafting.specs.declared.asked.Asked.{Asked}

-- An argument, and its value if it takes the next argument as that.
pub record Part : Type 0 where
  pub name : List ℕ
  pub value : Option (List ℕ)

-- The name of the text comes after -t, that of the output after -o.
abbrev pub is_text : List ℕ → Bool
is_text a = bytes_eq a (codes "-t")

abbrev pub is_output : List ℕ → Bool
is_output a = bytes_eq a (codes "-o")

-- The options that take a value.
abbrev pub is_valued : List ℕ → Bool
is_valued a =
    bytes_eq a (codes "--base") || (bytes_eq a (codes "--flat") || (bytes_eq a (codes "--size") || (bytes_eq a (codes "--fill") || (bytes_eq a (codes "--addresses") || (bytes_eq a (codes "--map") || (bytes_eq a (codes "--symbols") || (bytes_eq a (codes "--library-path") || (bytes_eq a (codes "-L") || (bytes_eq a (codes "--no-default-library") || (bytes_eq a (codes "--stack") || (bytes_eq a (codes "--max-alloc") || (bytes_eq a (codes "--order") || bytes_eq a (codes "--allow")))))))))))))

abbrev pub takes_value : List ℕ → Bool
takes_value a = is_text a || (is_output a || is_valued a)

-- A file's name does not begin with a dash, unless it is a dash alone.
abbrev pub begins_with_dash : List ℕ → Bool
begins_with_dash [] = false
begins_with_dash (c ∷ cs) = c == 45

abbrev pub is_file : List ℕ → Bool
is_file a = bytes_eq a (codes "-") || not (begins_with_dash a)

-- Arguments in parts; none if the last one has no value where it takes one.
abbrev pub parts_of : List (List ℕ) → Option (List Part)
parts_of [] = Some []
parts_of (a ∷ []) = elim (takes_value a) [ true ↦ None | false ↦ Some (record { name = a; value = None } ∷ []) ]
parts_of (a ∷ b ∷ rest) = elim (takes_value a) [
  | true ↦ option_map (λ ps. record { name = a; value = Some b } ∷ ps) (parts_of rest)
  | false ↦ option_map (λ ps. record { name = a; value = None } ∷ ps) (parts_of (b ∷ rest))
]

-- A part as arguments.
abbrev pub spelled : Part → List (List ℕ)
spelled p = p.name ∷ option_to_list p.value

-- What a part is: an option, the name of a file, that of the text, that of the output.
abbrev pub option_in : Part → List (List ℕ)
option_in p = if is_text p.name || (is_output p.name || is_file p.name) then [] else spelled p

abbrev pub file_in : Part → List (List ℕ)
file_in p = if is_file p.name then p.name ∷ [] else []

abbrev pub text_in : Part → List (List ℕ)
text_in p = if is_text p.name then option_to_list p.value else []

abbrev pub output_in : Part → List (List ℕ)
output_in p = if is_output p.name then option_to_list p.value else []

-- The parts, each kind in order: options after the first arguments, which stay as they are; files; at most one text, and at most one output.
pub record AreSorted (first : List (List ℕ)) (ps : List Part) (asked : Asked) : Type 0 where
  pub words : map string_bytes asked.words.items ≡ first ++ flat_map option_in ps
  pub files : map string_bytes asked.files.items ≡ flat_map file_in ps
  pub text : map string_bytes (option_to_list asked.text) ≡ flat_map text_in ps
  pub output : map string_bytes (option_to_list asked.output) ≡ flat_map output_in ps

-- Sorted arguments, of which the first n stay as they are. None: a value is missing, or there are two texts or two outputs.
abbrev pub IsSorted : ℕ → List (List ℕ) → Option Asked → Type 0
IsSorted n arguments (Some asked) = (ps : List Part) × (parts_of (drop n arguments) ≡ Some ps) × AreSorted (take n arguments) ps asked
IsSorted n arguments None =
    (parts_of (drop n arguments) ≡ None) ⊎ ((ps : List Part) × (parts_of (drop n arguments) ≡ Some ps) × ((2 ≤ length (flat_map text_in ps)) ⊎ (2 ≤ length (flat_map output_in ps))))

-- ---- steps

-- One more part.
pub record IsAdded (old new : Asked) (p : Part) : Type 0 where
  pub words : map string_bytes new.words.items ≡ map string_bytes old.words.items ++ option_in p
  pub files : map string_bytes new.files.items ≡ map string_bytes old.files.items ++ file_in p
  pub text : map string_bytes (option_to_list new.text) ≡ map string_bytes (option_to_list old.text) ++ text_in p
  pub output : map string_bytes (option_to_list new.output) ≡ map string_bytes (option_to_list old.output) ++ output_in p

-- One more part, or a second text or a second output.
abbrev pub IsAddedOnce : Asked → Asked → Part → Bool → Type 0
IsAddedOnce old new p true = IsAdded old new p
IsAddedOnce old new p false =
    (2 ≤ length (map string_bytes (option_to_list old.text) ++ text_in p)) ⊎ (2 ≤ length (map string_bytes (option_to_list old.output) ++ output_in p))

-- A value is put where there was none.
abbrev pub IsPutOnce : Option (String Global) → Option (String Global) → List ℕ → Bool → Type 0
IsPutOnce old new v true = (old ≡ None) × (map string_bytes (option_to_list new) ≡ v ∷ [])
IsPutOnce old new v false = IsSome old
