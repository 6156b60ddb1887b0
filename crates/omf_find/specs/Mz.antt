-- What an MZ file has in memory when DOS loads it at paragraph 0 (the MZ format; what its header must give is this profile's rule). The sizes, the words of the
-- header and the relocation table are those of omf_output, whose laws show what DOS makes of a file at each paragraph.
use Rattle.std.specs.Prelude.{◌≡◌, ℕ, ◌+◌, ◌-◌, ◌*◌, ◌||◌, List, drop, take, find, length, nat_lt, Bool, Option, Some, None, codes, if◌then◌else◌}
use Rattle.omf_output.specs.Exe.Loading.{file_size, header_size, table, word}
use Rattle.omf_find.specs.Marks.{has_at}
use Rattle.omf_find.specs.declared.mz.Mz.{Mz}
use Rattle.omf_find.specs.declared.mz.MzFault.{MzFault}
use Rattle.omf_find.specs.declared.mz.MzFault.TheVariants as fault

-- It begins with these letters, in either order.
abbrev pub is_mz : List ℕ → Bool
is_mz file = has_at file 0 (codes "MZ") || has_at file 0 (codes "ZM")

-- The image: the bytes that count, after the header.
abbrev pub image : List ℕ → List ℕ
image file = take (file_size file - header_size file) (drop (header_size file) file)

-- The relocation words. The word at 24 is the offset of their table, the word at 6 the number of its entries.
abbrev pub words : List ℕ → List ℕ
words file = table file (word file 6) (word file 24)

abbrev pub table_end : List ℕ → ℕ
table_end file = word file 24 + 4 * word file 6

-- What is wrong with a header, the first of: it is cut; the last page has more than 511 bytes; the file is shorter than it gives; the header is longer than the
-- file; the relocation table passes the end.
abbrev pub table_fault : List ℕ → Option MzFault
table_fault file = if nat_lt (length file) (table_end file) then Some (fault.Table (table_end file)) else None

abbrev pub length_fault : List ℕ → Option MzFault
length_fault file =
    if nat_lt (length file) (file_size file) then Some (fault.Short (file_size file))
    else (if nat_lt (file_size file) (header_size file) then Some (fault.LongHeader (header_size file)) else table_fault file)

abbrev pub header_fault : List ℕ → Option MzFault
header_fault file = if nat_lt (length file) 28 then Some fault.Cut else (if nat_lt 511 (word file 2) then Some (fault.LastPage (word file 2)) else length_fault file)

-- The first relocation word that is not in the image.
abbrev pub word_outside : List ℕ → Option ℕ
word_outside file = find (λ at. nat_lt (length (image file)) (at + 2)) (words file)

-- What the file has: the header has no fault, and all words are in the image.
pub record IsMz (file : List ℕ) (m : Mz) : Type 0 where
  pub header : header_fault file ≡ None
  pub inside : word_outside file ≡ None
  pub image : m.image.now ≡ image file
  pub words : m.words.items ≡ words file
  pub code : m.code ≡ (word file 22, word file 20)
  pub stack : m.stack ≡ word file 14

-- A fault is that of the header; or that of a word, or memory, only if the header has none.
abbrev pub IsMzFault : List ℕ → MzFault → Type 0
IsMzFault file fault.Memory = header_fault file ≡ None
IsMzFault file (fault.Word at) = (header_fault file ≡ None) × (word_outside file ≡ Some at)
IsMzFault file f = header_fault file ≡ Some f
