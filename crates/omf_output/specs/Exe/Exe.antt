-- MZ files (the published format of DOS .EXE files).
use Rattle.std.specs.Prelude.{ℕ, max, ◌+◌, ◌-◌, ◌*◌, ◌/◌, ◌%◌, ◌<◌, ◌≤◌, ◌^◌, List, [], ◌∷◌, ◌++◌, length, flat_map, replicate, All}
use Rattle.byteorder.specs.Endian.{little_bytes}

-- A program: its image, the offset in the image of each relocation word, CS:IP and SS:SP as they are at paragraph 0, and the number of paragraphs that
-- it needs after its image.
pub record Program : Type 0 where
  pub image : List ℕ
  pub words : List ℕ
  pub code : ℕ × ℕ
  pub stack : ℕ × ℕ
  pub extra : ℕ

-- The paragraphs of the header: 28 bytes and the relocation table, filled up to whole paragraphs.
abbrev pub paragraphs : Program → ℕ
paragraphs p = (4 * length p.words + 43) / 16

-- The size of the file in bytes.
abbrev pub size : Program → ℕ
size p = 16 * paragraphs p + length p.image

-- The 14 words of the header: signature, bytes in the last page, pages of 512 bytes, relocation entries, paragraphs of the header, minimum and maximum
-- of extra paragraphs (the maximum that is asked for, but not below the minimum), SS, SP, checksum (0: none), IP, CS, offset of the relocation table, overlay number.
abbrev pub header : ℕ → Program → List ℕ
header most p = 0x5A4D ∷ size p % 512 ∷ (size p + 511) / 512 ∷ length p.words ∷ paragraphs p ∷ p.extra ∷ max p.extra most ∷ p.stack.0 ∷ p.stack.1 ∷ 0 ∷ p.code.1 ∷ p.code.0 ∷ 28 ∷ 0 ∷ []

-- A relocation entry: an offset and a paragraph of the image.
abbrev pub entry_of : ℕ → List ℕ
entry_of at = at % 16 ∷ at / 16 ∷ []

abbrev pub as_bytes : List ℕ → List ℕ
as_bytes words = flat_map (little_bytes 2) words

-- The file: header, relocation table, padding, image.
abbrev pub exe : ℕ → Program → List ℕ
exe most p = as_bytes (header most p ++ flat_map entry_of p.words) ++ (replicate (16 * paragraphs p - (4 * length p.words + 28)) 0 ++ p.image)

-- The image has at most 2^20 bytes and is in the first megabyte with its words, of which there are fewer than 2^16; registers have 16 bits.
pub record CanBeWritten (p : Program) : Type 0 where
  pub few : length p.words < 2 ^ 16
  pub short : length p.image ≤ 2 ^ 20
  pub inside : All (λ at. at + 2 ≤ length p.image) p.words
  pub code : (p.code.0 < 2 ^ 16) × (p.code.1 < 2 ^ 16)
  pub stack : (p.stack.0 < 2 ^ 16) × (p.stack.1 < 2 ^ 16)
