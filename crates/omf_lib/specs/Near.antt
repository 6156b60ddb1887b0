-- Names that are near to one another (this profile's rule): the same but for case, and for the underscores and at signs that compilers put around names.
use Rattle.std.specs.Prelude.{ℕ, ◌==◌, ◌||◌, List, filter, find, map, Bool, not, bytes_eq, Option}
use Rattle.std.specs.Char.{to_ascii_lowercase}

-- An underscore (95) or an at sign (64).
abbrev pub is_around : ℕ → Bool
is_around c = (c == 95) || (c == 64)

-- What counts of a name: the other bytes, in lower case.
abbrev pub bare : List ℕ → List ℕ
bare name = map to_ascii_lowercase (filter (λ c. not (is_around c)) name)

-- The first of several names, in their order, that is near to one.
abbrev pub near_name : List ℕ → List (List ℕ) → Option (List ℕ)
near_name wanted names = find (λ n. bytes_eq (bare wanted) (bare n)) names
