-- Hexadecimal numbers as a person types them (a form of this profile).
use Rattle.std.specs.Prelude.{ℕ, List, [], ◌∷◌, Option, Some, None, option_map, unwrap_or, if◌then◌else◌, ◌==◌, ◌&&◌, ◌||◌}
use Rattle.std.specs.Option.{option_or}

-- What is before one of two letters at the end of a word; none if it ends otherwise.
abbrev pub before_letter : ℕ → ℕ → List ℕ → Option (List ℕ)
before_letter upper lower [] = None
before_letter upper lower (c ∷ []) = if c == upper || c == lower then Some [] else None
before_letter upper lower (c ∷ d ∷ cs) = option_map (λ front. c ∷ front) (before_letter upper lower (d ∷ cs))

-- What is after 0x at the start of a word; none if it starts otherwise.
abbrev pub after_0x : List ℕ → Option (List ℕ)
after_0x (first ∷ x ∷ digits) = if first == 48 && (x == 120 || x == 88) then Some digits else None
after_0x _ = None

-- The digits before an H without a zero in front of others: assemblers want one where the first digit is a letter, as in 0FFH.
abbrev pub without_zero : List ℕ → List ℕ
without_zero (first ∷ next ∷ digits) = if first == 48 then next ∷ digits else first ∷ next ∷ digits
without_zero digits = digits

-- The digits of a word that is marked as hexadecimal: those after 0x, or before an H at the end.
abbrev pub marked : List ℕ → Option (List ℕ)
marked word = option_or (after_0x word) (option_map without_zero (before_letter 72 104 word))

-- The digits of a hexadecimal number, marked or not.
abbrev pub digits_of : List ℕ → List ℕ
digits_of word = unwrap_or (marked word) word
