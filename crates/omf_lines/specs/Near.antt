-- Names that are near to one another (this profile's rule): the same but for case, for the underscores and at signs that compilers put around names, and for one
-- edit.
use Rattle.std.specs.Prelude.{ℕ, ◌==◌, ◌&&◌, ◌||◌, List, [], ◌∷◌, length, filter, find, map, Bool, false, not, nat_le, bytes_eq, Option, if◌then◌else◌}
use Rattle.std.specs.Char.{to_ascii_lowercase}

-- An underscore (95) or an at sign (64).
abbrev pub is_around : ℕ → Bool
is_around c = (c == 95) || (c == 64)

-- What counts of a name: the other bytes, in lower case.
abbrev pub bare : List ℕ → List ℕ
bare name = map to_ascii_lowercase (filter (λ c. not (is_around c)) name)

-- Two texts are the same but for their first two bytes, which are swapped.
abbrev pub are_swapped : List ℕ → List ℕ → Bool
are_swapped (a ∷ b ∷ one) (c ∷ d ∷ other) = (a == d) && ((b == c) && bytes_eq one other)
are_swapped _ _ = false

-- Two texts, whose first bytes differ, are the same without the first byte of both, or of the second, or of the first; or with their first two bytes swapped.
abbrev pub is_one_off : List ℕ → List ℕ → List ℕ → List ℕ → Bool
is_one_off one other after_one after_other = bytes_eq after_one after_other || (bytes_eq one after_other || (bytes_eq after_one other || are_swapped one other))

-- Two texts are the same, or one edit apart: a byte more, a byte less, another byte in one place, or two swapped bytes.
abbrev pub is_close : List ℕ → List ℕ → Bool
is_close [] other = nat_le (length other) 1
is_close (a ∷ one) [] = length one == 0
is_close (a ∷ one) (b ∷ other) = if a == b then is_close one other else is_one_off (a ∷ one) (b ∷ other) one other

abbrev pub is_near : List ℕ → List ℕ → Bool
is_near wanted name = is_close (bare wanted) (bare name)

-- The first of several names, in their order, that is near to one.
abbrev pub near_name : List ℕ → List (List ℕ) → Option (List ℕ)
near_name wanted names = find (is_near wanted) names
