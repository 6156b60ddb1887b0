-- The notation of worked examples: bytes in hexadecimal.
use Rattle.std.specs.Prelude.{ℕ, ◌+◌, ◌*◌, List, [], ◌∷◌}
use Rattle.std.specs.Char.{digit_value}

-- the bytes that a text spells: two digits for each byte, one space between bytes
abbrev pub hex : List ℕ → List ℕ
hex (high ∷ low ∷ []) = (16 * digit_value high + digit_value low) ∷ []
hex (high ∷ low ∷ space ∷ text) = (16 * digit_value high + digit_value low) ∷ hex text
hex _ = []
