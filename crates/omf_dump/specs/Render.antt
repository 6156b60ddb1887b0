-- The two renderings of what is shown, text and JSON (this profile's rule).
use Rattle.std.specs.Prelude.{ℕ, ◌+◌, ◌-◌, ◌*◌, ◌/◌, List, [], ◌∷◌, ◌++◌, length, flat_map, map, take, drop, replicate, Bool, true, false, Option, Some, None, ◌==◌, ◌&&◌, nat_le, nat_lt, codes, decimal, if◌then◌else◌}
use Rattle.std.specs.List.{range_with_len}
use Rattle.omf_frame.specs.Types.{width_bytes}
use Rattle.omf_frame.specs.declared.kinds.Width.{Width}
use Rattle.omf_placement.specs.Quoted.{hex, is_plain}
use Rattle.omf_dump.specs.Fields.{Entry, Value, Number, Signed, Hex, Word, Characters, Bytes, Marked, Named, Method, Flag, Depth, Field, field, Item, Block, Shown}
use Rattle.omf_dump.specs.Words.{type_word}
use Rattle.omf_dump.specs.declared.format.Format.{Format}
use Rattle.omf_dump.specs.declared.format.Style.{Style}
use Rattle.omf_dump.specs.declared.format.Format.TheVariants as format

-- Bytes in double quotes. Bytes outside 20H to 7EH, the quote and the backslash are written as \x and two digits, in JSON as \u00 and two
-- digits: there a byte is the character of its number.
abbrev pub escape : Format → List ℕ
escape format.Text = codes "\\x"
escape format.Json = codes "\\u00"

abbrev pub escaped : Format → ℕ → List ℕ
escaped f c = if is_plain c then c ∷ [] else escape f ++ hex 2 c

abbrev pub quoted : Format → List ℕ → List ℕ
quoted f name = 34 ∷ flat_map (escaped f) name ++ 34 ∷ []

-- The least number of hexadecimal digits of a 16-bit and a 32-bit field.
abbrev pub digits : Width → ℕ
digits width = 2 * width_bytes width

-- A number. JSON has only decimal ones.
abbrev pub hexadecimal : Format → ℕ → ℕ → List ℕ
hexadecimal format.Text least n = hex least n
hexadecimal format.Json least n = decimal n

-- A word; in JSON in quotes.
abbrev pub word_text : Format → List ℕ → List ℕ
word_text format.Text w = w
word_text format.Json w = 34 ∷ w ++ 34 ∷ []

-- Bytes: each as two digits; in text with a space between each two.
abbrev pub spaced : List ℕ → List ℕ
spaced [] = []
spaced (b ∷ bytes) = hex 2 b ++ flat_map (λ c. 32 ∷ hex 2 c) bytes

abbrev pub bytes_text : Format → List ℕ → List ℕ
bytes_text format.Text bytes = spaced bytes
bytes_text format.Json bytes = 34 ∷ flat_map (hex 2) bytes ++ 34 ∷ []

-- Bytes, with those before and after them: in text all, these in brackets; in JSON three words.
abbrev pub marked_text : Format → List ℕ → List ℕ → List ℕ → List ℕ
marked_text format.Text before bytes after = flat_map (λ c. hex 2 c ++ 32 ∷ []) before ++ (91 ∷ spaced bytes ++ (93 ∷ flat_map (λ c. 32 ∷ hex 2 c) after))
marked_text format.Json before bytes after = bytes_text format.Json bytes
    ++ (codes ",\"before\":" ++ (bytes_text format.Json before ++ (codes ",\"after\":" ++ bytes_text format.Json after)))

-- The name beside an index, if there is one.
abbrev pub name_beside : Format → Option (List ℕ) → List ℕ
name_beside f None = []
name_beside format.Text (Some name) = 32 ∷ quoted format.Text name
name_beside format.Json (Some name) = codes ",\"name\":" ++ quoted format.Json name

-- An index, or a dash for 0, with its name. In JSON these are members of an object.
abbrev pub index_text : Format → ℕ → List ℕ
index_text format.Text i = if i == 0 then codes "-" else decimal i
index_text format.Json i = codes "\"index\":" ++ decimal i

abbrev pub entry_text : Format → Entry → List ℕ
entry_text f e = index_text f e.index ++ name_beside f e.name

abbrev pub named_text : Format → Entry → List ℕ
named_text format.Text e = entry_text format.Text e
named_text format.Json e = 123 ∷ entry_text format.Json e ++ 125 ∷ []

-- A frame or target method by its word, and the entry that it has.
abbrev pub method_head : Format → List ℕ → List ℕ
method_head format.Text m = m
method_head format.Json m = codes "{\"method\":\"" ++ m ++ 34 ∷ []

abbrev pub method_entry : Format → Option Entry → List ℕ
method_entry f None = []
method_entry format.Text (Some e) = 32 ∷ entry_text format.Text e
method_entry format.Json (Some e) = 44 ∷ entry_text format.Json e

abbrev pub method_end : Format → List ℕ
method_end format.Text = []
method_end format.Json = 125 ∷ []

abbrev pub method_text : Format → List ℕ → Option Entry → List ℕ
method_text f m e = method_head f m ++ (method_entry f e ++ method_end f)

-- The name of a field, up to its value.
abbrev pub opened : Format → List ℕ → List ℕ
opened format.Text name = 32 ∷ 32 ∷ name ++ 32 ∷ []
opened format.Json name = 44 ∷ 34 ∷ name ++ 34 ∷ 58 ∷ []

-- A flag: in text its name, or nothing.
abbrev pub flag_text : Format → List ℕ → Bool → List ℕ
flag_text format.Text name true = 32 ∷ 32 ∷ name
flag_text format.Text name false = []
flag_text format.Json name true = opened format.Json name ++ codes "true"
flag_text format.Json name false = opened format.Json name ++ codes "false"

-- How deep something is nested: in text two spaces for each level.
abbrev pub depth_text : Format → List ℕ → ℕ → List ℕ
depth_text format.Text name n = replicate n 32 ++ replicate n 32
depth_text format.Json name n = opened format.Json name ++ decimal n

-- A 16-bit number with a sign: from 8000H on it is negative.
abbrev pub signed : ℕ → List ℕ
signed n = if nat_lt n 32768 then decimal n else 45 ∷ decimal (65536 - n)

abbrev pub value_text : Format → List ℕ → Value → List ℕ
value_text f name (Number n) = opened f name ++ decimal n
value_text f name (Signed n) = opened f name ++ signed n
value_text f name (Hex least n) = opened f name ++ hexadecimal f least n
value_text f name (Word w) = opened f name ++ word_text f w
value_text f name (Characters bytes) = opened f name ++ quoted f bytes
value_text f name (Bytes bytes) = opened f name ++ bytes_text f bytes
value_text f name (Marked before bytes after) = opened f name ++ marked_text f before bytes after
value_text f name (Named e) = opened f name ++ named_text f e
value_text f name (Method m e) = opened f name ++ method_text f m e
value_text f name (Flag b) = flag_text f name b
value_text f name (Depth n) = depth_text f name n

abbrev pub field_text : Format → Field → List ℕ
field_text f x = value_text f x.name x.value

abbrev pub fields_text : Format → List Field → List ℕ
fields_text f xs = flat_map (field_text f) xs

-- An item: in text a line, with its offset in the record after four spaces and a plus sign; in JSON an object of a list.
abbrev pub item_start : Format → Bool → ℕ → List ℕ
item_start format.Text is_first within = codes "    +" ++ decimal within
item_start format.Json true within = codes "{\"within\":" ++ decimal within
item_start format.Json false within = codes ",{\"within\":" ++ decimal within

abbrev pub item_end : Format → List ℕ
item_end format.Text = 10 ∷ []
item_end format.Json = 125 ∷ []

abbrev pub item_text : Format → Bool → Item → List ℕ
item_text f is_first x = item_start f is_first x.within ++ (fields_text f x.fields ++ item_end f)

abbrev pub items_text : Format → Bool → List Item → List ℕ
items_text f is_first [] = []
items_text f is_first (x ∷ xs) = item_text f is_first x ++ items_text f false xs

abbrev pub list_start : Format → List ℕ
list_start format.Text = []
list_start format.Json = codes ",\"items\":["

abbrev pub list_end : Format → List ℕ
list_end format.Text = []
list_end format.Json = 93 ∷ []

abbrev pub list_text : Format → Option (List Item) → List ℕ
list_text f None = []
list_text f (Some xs) = list_start f ++ (items_text f true xs ++ list_end f)

-- Bytes: in text lines of 16, each with the offset of its first byte, the bytes, and the characters that they are; in JSON one word.
abbrev pub is_shown : ℕ → Bool
is_shown c = nat_le 0x20 c && nat_le c 0x7E

abbrev pub shown_byte : ℕ → ℕ
shown_byte c = if is_shown c then c else 46

abbrev pub row : ℕ → List ℕ → List ℕ
row first bytes = codes "    " ++ (hex 8 first ++ (flat_map (λ c. 32 ∷ hex 2 c) bytes ++ (replicate (3 * (16 - length bytes) + 2) 32 ++ (map shown_byte bytes ++ 10 ∷ []))))

abbrev pub rows : ℕ → List ℕ → List ℕ
rows first bytes = flat_map (λ k. row (first + 16 * k) (take 16 (drop (16 * k) bytes))) (range_with_len 0 ((length bytes + 15) / 16))

abbrev pub bytes_block : Format → ℕ → List ℕ → List ℕ
bytes_block format.Text first bytes = rows first bytes
bytes_block format.Json first bytes = codes ",\"data\":\"" ++ (flat_map (hex 2) bytes ++ 34 ∷ [])

-- The number of bytes that are left out, if some are.
abbrev pub many_bytes : ℕ → List ℕ
many_bytes n = codes "    and " ++ (decimal n ++ codes " bytes more\n")

abbrev pub more_bytes : ℕ → List ℕ
more_bytes n = if n == 1 then codes "    and 1 byte more\n" else many_bytes n

abbrev pub some_left_out : Format → ℕ → List ℕ
some_left_out format.Text n = more_bytes n
some_left_out format.Json n = codes ",\"left-out\":" ++ decimal n

abbrev pub left_out : Format → ℕ → List ℕ
left_out f n = if n == 0 then [] else some_left_out f n

-- Bytes of a record, at most so many.
abbrev pub block_text : Style → Option Block → List ℕ
block_text style None = []
block_text style (Some b) = bytes_block style.format b.first (take style.most b.bytes) ++ left_out style.format (length b.bytes - style.most)

-- A record: number, offset, type byte and type name, and what is shown of its contents.
abbrev pub place_head : Format → ℕ → ℕ → List ℕ
place_head format.Text number start = decimal number ++ 32 ∷ hex 8 start
place_head format.Json number start = codes "{\"number\":" ++ (decimal number ++ (codes ",\"start\":" ++ decimal start))

abbrev pub kind_head : Format → ℕ → List ℕ → List ℕ
kind_head format.Text kind name = 32 ∷ hex 2 kind ++ 32 ∷ name
kind_head format.Json kind name = codes ",\"type\":" ++ (decimal kind ++ (codes ",\"record\":\"" ++ (name ++ 34 ∷ [])))

abbrev pub named_head : Format → ℕ → ℕ → ℕ → List ℕ → List ℕ
named_head f number start kind name = place_head f number start ++ kind_head f kind name

abbrev pub head_text : Format → ℕ → ℕ → ℕ → List ℕ
head_text f number start kind = named_head f number start kind (type_word kind)

abbrev pub line_end : Format → List ℕ
line_end format.Text = 10 ∷ []
line_end format.Json = []

abbrev pub record_end : Format → List ℕ
record_end format.Text = []
record_end format.Json = 125 ∷ 10 ∷ []

-- What follows the fields of a record, up to its end.
abbrev pub closing : Style → Option (List Item) → Option Block → List ℕ
closing style items block = line_end style.format ++ (list_text style.format items ++ block_text style block)

abbrev pub shown_text : Style → Shown → List ℕ
shown_text style s = fields_text style.format s.fields ++ closing style s.items s.block

-- The checksum byte of a record, after its type name. It is 0 where the compiler wrote no sum (section Record Format).
abbrev pub checksum_text : Format → ℕ → List ℕ
checksum_text f checksum = field_text f (field (codes "checksum") (Hex 2 checksum))

abbrev pub framed_head : Format → ℕ → ℕ → ℕ → ℕ → List ℕ
framed_head f number start kind checksum = head_text f number start kind ++ checksum_text f checksum

abbrev pub record_text : Style → ℕ → ℕ → ℕ → ℕ → Shown → List ℕ
record_text style number start kind checksum s = framed_head style.format number start kind checksum ++ (shown_text style s ++ record_end style.format)
