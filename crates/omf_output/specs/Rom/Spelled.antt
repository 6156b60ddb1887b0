-- Bytes in hexadecimal, as both formats write them: two digits for each byte, upper case.
use Rattle.std.specs.Prelude.{ℕ, ◌/◌, ◌%◌, List, [], ◌∷◌, ◌++◌, true, flat_map}
use Rattle.std.specs.Fmt.{digit_glyph}

-- a byte in two digits
abbrev pub byte_text : ℕ → List ℕ
byte_text b = digit_glyph true (b / 16) ∷ digit_glyph true (b % 16) ∷ []

-- bytes, one after another
abbrev pub spelled : List ℕ → List ℕ
spelled bytes = flat_map byte_text bytes

-- a line: a mark, the bytes, and a line feed
abbrev pub line : List ℕ → List ℕ → List ℕ
line mark bytes = mark ++ spelled bytes ++ 10 ∷ []
