-- What a loader reads of a file that was written.
use Rattle.std.proofs.Common.{◌≡◌, ℕ, suc, ◌+◌, ◌*◌, ◌-◌, ◌<◌, ◌≤◌, List, [], ◌∷◌, ◌++◌, cond, length, take, drop, refl, sym, ◌∙◌, ap, ap₂, arith, length-append}
use Rattle.std.specs.Prelude.{All, flat_map, replicate, ◌/◌, ◌%◌, ◌==◌}
use Rattle.std.proofs.lemmas.Bool.Decides.{nat_tests}
use Rattle.std.proofs.lemmas.List.{append_assoc, take_all, drop_at, length-replicate}
use Rattle.std.proofs.lemmas.List.Elements.{All-head, All-tail, All-weaker}
use Rattle.byteorder.specs.Endian.{little_number, little_bytes}
use Rattle.byteorder.specs.Numbers.{little_number-reads_back}
use Rattle.omf_output.specs.Exe.Exe.{Program, CanBeWritten, paragraphs, size, header, entry_of, as_bytes, exe}
use Rattle.omf_output.specs.Exe.Loading.{Loaded, loaded, word, table, file_size, header_size}
use Rattle.omf_output.specs.Exe.Relocations.{words_moved}
use Rattle.omf_output.specs.Exe.Laws.{FilesAreLoaded, loaded_program}

-- A word that is written is read.
word-first : (w : ℕ) (ws rest : List ℕ) → w < 65536 → word (as_bytes (w ∷ ws) ++ rest) 0 ≡ w
word-first w ws rest h = little_number-reads_back 2 w (as_bytes ws ++ rest) h

word-later : (w : ℕ) (ws rest : List ℕ) (at : ℕ) → word (as_bytes (w ∷ ws) ++ rest) (suc (suc at)) ≡ word (as_bytes ws ++ rest) at
word-later w ws rest at = refl

word-after : (front ws rest : List ℕ) (at : ℕ) → at ≡ 2 * length front → word (as_bytes (front ++ ws) ++ rest) at ≡ word (as_bytes ws ++ rest) 0
word-after [] ws rest at e = let none : at ≡ 0 = omega (arith, e) in ap (word (as_bytes ws ++ rest)) none
word-after (w ∷ front) ws rest at e =
    let more : at ≡ suc (suc (2 * length front)) = omega (arith, e) in
    ap (word (as_bytes (w ∷ front ++ ws) ++ rest)) more ∙ word-later w (front ++ ws) rest (2 * length front) ∙ word-after front ws rest (2 * length front) refl

-- A table that is written is read.
abbrev IsLow : ℕ → Type 0
IsLow at = at < 1048576

table-read : (words front rest : List ℕ) (at : ℕ) → at ≡ 2 * length front → All IsLow words → table (as_bytes (front ++ flat_map entry_of words) ++ rest) (length words) at ≡ words
table-read [] front rest at e low = refl
table-read (x ∷ words) front rest at e low =
    let ws = flat_map entry_of words in
    let file = as_bytes (front ++ flat_map entry_of (x ∷ words)) ++ rest in
    let here : x < 1048576 = All-head IsLow x words low in
    let offset : word file at ≡ x % 16 = word-after front (x % 16 ∷ x / 16 ∷ ws) rest at e ∙ word-first (x % 16) (x / 16 ∷ ws) rest (omega arith) in
    let joined : (front ++ (x % 16 ∷ [])) ++ (x / 16 ∷ ws) ≡ front ++ (x % 16 ∷ x / 16 ∷ ws) = append_assoc front (x % 16 ∷ []) (x / 16 ∷ ws) in
    let paragraph : word file (at + 2) ≡ x / 16 =
    ap (λ l. word (as_bytes l ++ rest) (at + 2)) (sym joined)
    ∙ word-after (front ++ (x % 16 ∷ [])) (x / 16 ∷ ws) rest (at + 2) (omega (arith, e, length-append front (x % 16 ∷ [])))
    ∙ word-first (x / 16) ws rest (omega (arith, here)) in
    let first : 16 * word file (at + 2) + word file at ≡ x = omega (arith, offset, paragraph) in
    let both : (front ++ (x % 16 ∷ x / 16 ∷ [])) ++ ws ≡ front ++ (x % 16 ∷ x / 16 ∷ ws) = append_assoc front (x % 16 ∷ x / 16 ∷ []) ws in
    let later : table file (length words) (at + 4) ≡ words =
    ap (λ l. table (as_bytes l ++ rest) (length words) (at + 4)) (sym both)
    ∙ table-read words (front ++ (x % 16 ∷ x / 16 ∷ [])) rest (at + 4) (omega (arith, e, length-append front (x % 16 ∷ x / 16 ∷ []))) (All-tail IsLow x words low) in
    ap₂ (λ y ys. y ∷ ys) first later

pub length-bytes : (ws : List ℕ) → length (as_bytes ws) ≡ 2 * length ws
length-bytes [] = refl
length-bytes (w ∷ ws) = let rest = length-bytes ws in omega (arith, rest)

pub length-entries : (words : List ℕ) → length (flat_map entry_of words) ≡ 2 * length words
length-entries [] = refl
length-entries (w ∷ words) = let rest = length-entries words in omega (arith, rest)

pub length-zeros : (n : ℕ) → length {A = ℕ} (replicate n 0) ≡ n
length-zeros n = length-replicate n 0

all-low : (words : List ℕ) (n : ℕ) → n ≤ 1048576 → All (λ at. at + 2 ≤ n) words → All IsLow words
all-low words n h all = All-weaker (λ at. at + 2 ≤ n) IsLow (λ at g. omega (arith, g, h)) words all

low-word : (n : ℕ) → n < 65536 → little_number 2 (little_bytes 2 n) ≡ n
low-word n h = little_number-reads_back 2 n [] h

-- The file's size by its pages.
size-read : (s last pages : ℕ) → last ≡ s % 512 → pages ≡ (s + 511) / 512 → cond (last == 0) (512 * pages) (512 * (pages - 1) + last) ≡ s
size-read s last pages e f = grind (arith, nat_tests)

made-of : (file : List ℕ) (k : ℕ) (p : Program) → table file (word file 6) (word file 24) ≡ p.words → take (file_size file - header_size file) (drop (header_size file) file) ≡ p.image
    → word file 22 ≡ p.code.0 → word file 20 ≡ p.code.1 → word file 14 ≡ p.stack.0 → word file 16 ≡ p.stack.1 → loaded file k ≡ loaded_program p k
made-of file k p words image cs ip ss sp =
    ap₂ (λ ws i. put (words_moved k ws i) (word file 22) (word file 20) (word file 14) (word file 16)) words image
    ∙ ap₂ (λ c i. put (words_moved k p.words p.image) c i (word file 14) (word file 16)) cs ip
    ∙ ap₂ (λ c i. put (words_moved k p.words p.image) p.code.0 p.code.1 c i) ss sp
  where
    put : List ℕ → ℕ → ℕ → ℕ → ℕ → Loaded
    put image cs ip ss sp = record { address = 16 * k; image = image; code = ((cs + k) % 65536, ip); stack = ((ss + k) % 65536, sp) }

module _ (most : ℕ) (p : Program) (h : CanBeWritten p) where
  abbrev n : ℕ
  n = length p.words

  abbrev front : List ℕ
  front = as_bytes (header most p ++ flat_map entry_of p.words)

  abbrev zeros : List ℕ
  zeros = replicate (16 * paragraphs p - (4 * length p.words + 28)) 0

  length-front : length (front ++ zeros) ≡ 16 * paragraphs p
  length-front =
      let one = length-bytes (header most p ++ flat_map entry_of p.words) in
      let two = length-append (header most p) (flat_map entry_of p.words) in
      let three = length-entries p.words in
      let four = length-zeros (16 * paragraphs p - (4 * length p.words + 28)) in
      let five = length-append front zeros in
      omega (arith, one, two, three, four, five)

  few : n < 65536
  few = h.few

  in-sixteen : paragraphs p < 65536
  in-sixteen = let f = few in omega (arith, f)

  pages : (size p + 511) / 512 < 65536
  pages = let f = few in let s = h.short in omega (arith, f, s)

  size-is : file_size (exe most p) ≡ size p
  size-is =
      let last : size p % 512 < 65536 = omega arith in
      size-read (size p) (word (exe most p) 2) (word (exe most p) 4) (low-word (size p % 512) last) (low-word ((size p + 511) / 512) pages)

  header-is : header_size (exe most p) ≡ 16 * paragraphs p
  header-is = ap (λ x. 16 * x) (low-word (paragraphs p) in-sixteen)

  image-is : take (file_size (exe most p) - header_size (exe most p)) (drop (header_size (exe most p)) (exe most p)) ≡ p.image
  image-is =
      ap₂ (λ s x. take (s - x) (drop x (exe most p))) size-is header-is
      ∙ ap (λ l. take (size p - 16 * paragraphs p) (drop (16 * paragraphs p) l)) (sym (append_assoc front zeros p.image))
      ∙ ap (take (size p - 16 * paragraphs p)) (drop_at (front ++ zeros) p.image (16 * paragraphs p) length-front)
      ∙ take_all (size p - 16 * paragraphs p) p.image (omega arith)

  words-are : table (exe most p) (word (exe most p) 6) (word (exe most p) 24) ≡ p.words
  words-are =
      let at : word (exe most p) 24 ≡ 28 = refl in
      ap₂ (λ c a. table (exe most p) c a) (low-word n few) at
      ∙ table-read p.words (header most p) (zeros ++ p.image) 28 refl (all-low p.words (length p.image) h.short h.inside)

pub files : FilesAreLoaded
files most p k h = made-of (exe most p) k p (words-are most p h) (image-is most p h) (low-word p.code.0 h.code.0) (low-word p.code.1 h.code.1) (low-word p.stack.0 h.stack.0) (low-word p.stack.1 h.stack.1)
