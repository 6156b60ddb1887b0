-- The lines of a map: a word with an address, and named fields; as text, or as an object of JSON (this profile's rule).
use Rattle.std.specs.Prelude.{ℕ, List, [], ◌∷◌, ◌++◌, flat_map, codes, decimal, Option, Some, None, if◌then◌else◌}
use Rattle.omf_placement.specs.Quoted.{hex, is_plain}
use Rattle.omf_find.specs.declared.fields.Format.{Format}
use Rattle.omf_find.specs.declared.fields.Format.TheVariants as format

-- A value: an address or a length, a number, a name, a word of a fixed list, a byte or none.
pub data Value : Type 0 where
  Address : ℕ → Value
  Number : ℕ → Value
  Name : List ℕ → Value
  Word : List ℕ → Value
  Byte : Option ℕ → Value

-- An address; JSON has only decimal numbers.
abbrev pub hexadecimal : Format → ℕ → List ℕ
hexadecimal format.Text n = hex 8 n
hexadecimal format.Json n = decimal n

-- A name in double quotes. Bytes outside 20H to 7EH, the quote and the backslash are \x and two digits, in JSON \u00 and two digits: there a byte is the
-- character of its number.
abbrev pub digits : Format → List ℕ
digits format.Text = codes "\\x"
digits format.Json = codes "\\u00"

abbrev pub name_byte : Format → ℕ → List ℕ
name_byte f c = if is_plain c then c ∷ [] else digits f ++ hex 2 c

abbrev pub quoted : Format → List ℕ → List ℕ
quoted f name = 34 ∷ flat_map (name_byte f) name ++ 34 ∷ []

abbrev pub word_text : Format → List ℕ → List ℕ
word_text format.Text w = w
word_text format.Json w = 34 ∷ w ++ 34 ∷ []

abbrev pub byte_text : Format → Option ℕ → List ℕ
byte_text format.Text (Some b) = hex 2 b
byte_text format.Text None = codes "none"
byte_text format.Json (Some b) = decimal b
byte_text format.Json None = codes "null"

abbrev pub value_text : Format → Value → List ℕ
value_text f (Address n) = hexadecimal f n
value_text f (Number n) = decimal n
value_text f (Name n) = quoted f n
value_text f (Word w) = word_text f w
value_text f (Byte b) = byte_text f b

-- The name of a field, up to its value.
abbrev pub opened : Format → List ℕ → List ℕ
opened format.Text key = 32 ∷ 32 ∷ key ++ 32 ∷ []
opened format.Json key = 44 ∷ 34 ∷ key ++ 34 ∷ 58 ∷ []

abbrev pub field_text : Format → List ℕ → Value → List ℕ
field_text f key v = opened f key ++ value_text f v

-- The beginning and the end of a line.
abbrev pub head_text : Format → List ℕ → ℕ → List ℕ
head_text format.Text w address = w ++ 32 ∷ hex 8 address
head_text format.Json w address = 123 ∷ 34 ∷ w ++ 34 ∷ 58 ∷ decimal address

abbrev pub closed : Format → List ℕ
closed format.Text = 10 ∷ []
closed format.Json = 125 ∷ 10 ∷ []
