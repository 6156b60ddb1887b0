-- What DOS makes of an MZ file that it loads at a paragraph. The header's fields, by their offsets in the file, and what DOS does with each: MS-DOS
-- Programmer's Reference (Microsoft Press), "EXE File Header"; Ralf Brown's Interrupt List, INT 21h AH=4Bh, "Format of .EXE file header".
use Rattle.std.specs.Prelude.{ℕ, zero, suc, ◌+◌, ◌-◌, ◌*◌, ◌%◌, ◌==◌, List, [], ◌∷◌, take, drop, if◌then◌else◌}
use Rattle.byteorder.specs.Endian.{little_number}
use Rattle.omf_output.specs.Exe.Relocations.{words_moved}

-- The address where the image begins, the image, CS:IP and SS:SP.
pub record Loaded : Type 0 where
  pub address : ℕ
  pub image : List ℕ
  pub code : ℕ × ℕ
  pub stack : ℕ × ℕ

abbrev pub word : List ℕ → ℕ → ℕ
word file at = little_number 2 (drop at file)

-- The bytes of the file that count: as many pages of 512 bytes as the word at 4; the last has as many bytes as the word at 2, or all if that is 0. The bytes of the header: 16 times the word at 8.
abbrev pub file_size : List ℕ → ℕ
file_size file = if word file 2 == 0 then 512 * word file 4 else 512 * (word file 4 - 1) + word file 2

abbrev pub header_size : List ℕ → ℕ
header_size file = 16 * word file 8

-- n entries of the relocation table, each an offset and a paragraph in the image.
abbrev pub table : List ℕ → ℕ → ℕ → List ℕ
table file zero at = []
table file (suc n) at = (16 * word file (at + 2) + word file at) ∷ table file n (at + 4)

-- Loaded at a paragraph: the paragraph is added to each word of the table (6 and 24), to CS (22) and to SS (14), modulo 2^16.
abbrev pub loaded : List ℕ → ℕ → Loaded
loaded file k = record {
  address = 16 * k;
  image = words_moved k (table file (word file 6) (word file 24)) (take (file_size file - header_size file) (drop (header_size file) file));
  code = ((word file 22 + k) % 65536, word file 20);
  stack = ((word file 14 + k) % 65536, word file 16);
}
