-- The image of chunks that move.
use Rattle.std.proofs.Common.{◌≡◌, ◌⊎◌, ℕ, ◌+◌, ◌*◌, ◌-◌, ◌≤◌, List, [], ◌∷◌, ◌++◌, length, map, take, drop, refl, sym, ◌∙◌, ap, ap₂, ⊎_elim, inl, inr, arith, length-append}
use Rattle.std.specs.Prelude.{All, fold, replicate}
use Rattle.std.proofs.lemmas.List.{append_assoc, take_at, drop_at, drop-drop, length-take-le}
use Rattle.std.proofs.lemmas.List.Elements.{All-head, All-tail, All-map, All-weaker}
use Rattle.omf_image.specs.Inner.Names.{sum_bytes}
use Rattle.omf_image.specs.Parts.{add_part}
use Rattle.omf_output.specs.Exe.Relocations.{words_moved}
use Rattle.omf_output.specs.Exe.Memory.{Chunk, AreUncovered, LiesIn, chunk_words, flat_words, moved_chunk, put}
use Rattle.omf_output.specs.Exe.Laws.{ImagesMove}
use Rattle.omf_output.proofs.ChangeLaws.{IsChange, changes-apart, length-change, front_of, number_of, back_of, split, length-front, length-number}
use Rattle.omf_output.proofs.FileLaws.{length-zeros}
use Rattle.omf_output.proofs.WordLaws.{adding, length-add}

putting : (base : ℕ) (c : Chunk) → IsChange (λ l. put base l c) (λ x. c.bytes) (c.address - base) (length c.bytes)
putting base c = record { at = at; long = λ x e. refl }
  where
    at : (a x y : List ℕ) → length a ≡ c.address - base → length x ≡ length c.bytes → put base (a ++ (x ++ y)) c ≡ a ++ (c.bytes ++ y)
    at a x y e f =
        let l = a ++ (x ++ y) in
        let pos = c.address - base in
        let front : take pos l ≡ a = take_at a (x ++ y) pos e in
        let behind : drop pos l ≡ x ++ y = drop_at a (x ++ y) pos e in
        let back : drop (pos + length c.bytes) l ≡ y = sym (drop-drop (length c.bytes) pos l) ∙ ap (drop (length c.bytes)) behind ∙ drop_at x y (length c.bytes) f in
        ap₂ (λ u v. u ++ c.bytes ++ v) front back ∙ append_assoc a c.bytes y

module _ (k : ℕ) where
  abbrev add : ℕ → List ℕ → List ℕ
  add w bytes = add_part bytes w 2 k

  abbrev Inside : List ℕ → ℕ → Type 0
  Inside bytes w = w + 2 ≤ length bytes

  keep : (bytes other : List ℕ) → length other ≡ length bytes → (ws : List ℕ) → All (Inside bytes) ws → All (Inside other) ws
  keep bytes other e ws all = All-weaker (Inside bytes) (Inside other) (λ w h. omega (arith, h, e)) ws all

  pub length-words : (ws bytes : List ℕ) → All (Inside bytes) ws → length (words_moved k ws bytes) ≡ length bytes
  length-words [] bytes all = refl
  length-words (w ∷ ws) bytes all =
      let kept = length-add bytes w 2 k (All-head (Inside bytes) w ws all) in
      length-words ws (add w bytes) (keep bytes (add w bytes) kept ws (All-tail (Inside bytes) w ws all)) ∙ kept

  words-append : (xs ys bytes : List ℕ) → words_moved k (xs ++ ys) bytes ≡ words_moved k ys (words_moved k xs bytes)
  words-append [] ys bytes = refl
  words-append (x ∷ xs) ys bytes = words-append xs ys (add x bytes)

  -- A word among bytes that are between others.
  between : (a f p b c : List ℕ) → (a ++ f) ++ (p ++ (b ++ c)) ≡ a ++ ((f ++ (p ++ b)) ++ c)
  between a f p b c = append_assoc a f (p ++ (b ++ c)) ∙ ap (λ l. a ++ l) (sym (append_assoc f (p ++ b) c ∙ ap (λ l. f ++ l) (append_assoc p b c)))

  word-between : (a x c : List ℕ) (at w : ℕ) → length a ≡ at → w + 2 ≤ length x → add (at + w) (a ++ (x ++ c)) ≡ a ++ (add w x ++ c)
  word-between a x c at w e h =
      let f = front_of x w in
      let m = number_of x w 2 in
      let b = back_of x w 2 in
      let lf = length-front x w 2 h in
      let lm = length-number x w 2 h in
      let laf : length (a ++ f) ≡ at + w = omega (arith, e, lf, length-append a f) in
      ap (λ l. add (at + w) (a ++ (l ++ c))) (split x w 2)
      ∙ ap (add (at + w)) (sym (between a f m b c))
      ∙ (adding (at + w) 2 k).at (a ++ f) m (b ++ c) laf lm
      ∙ between a f (sum_bytes 2 m k) b c
      ∙ sym (ap (λ l. a ++ (l ++ c)) (ap (add w) (split x w 2) ∙ (adding w 2 k).at f m b lf lm))

  words-between : (ws a x c : List ℕ) (at : ℕ) → length a ≡ at → All (Inside x) ws → words_moved k (map (λ w. at + w) ws) (a ++ (x ++ c)) ≡ a ++ (words_moved k ws x ++ c)
  words-between [] a x c at e all = refl
  words-between (w ∷ ws) a x c at e all =
      let here = All-head (Inside x) w ws all in
      let kept = length-add x w 2 k here in
      ap (words_moved k (map (λ w. at + w) ws)) (word-between a x c at w e here)
      ∙ words-between ws a (add w x) c at e (keep x (add w x) kept ws (All-tail (Inside x) w ws all))

  module _ (base n : ℕ) where
    -- A chunk that moves, put in its place.
    put-moves : (c : Chunk) (bytes : List ℕ) → length bytes ≡ n → LiesIn base n c → put (base + 16 * k) bytes (moved_chunk k c) ≡ words_moved k (chunk_words base c) (put base bytes c)
    put-moves c bytes e h =
        let at = c.address - base in
        let a = take at bytes in
        let y = drop (at + length c.bytes) bytes in
        let new = words_moved k c.words c.bytes in
        let above = h.above in
        let below = h.below in
        let same : c.address + 16 * k - (base + 16 * k) ≡ at = omega arith in
        let long : length new ≡ length c.bytes = length-words c.words c.bytes h.words in
        let la : length a ≡ at = length-take-le at bytes (omega (arith, above, below, e)) in
        ap₂ (λ p q. take p bytes ++ new ++ drop (p + q) bytes) same long
        ∙ append_assoc a new y
        ∙ sym (words-between c.words a c.bytes y at la h.words)
        ∙ ap (words_moved k (chunk_words base c)) (sym (append_assoc a c.bytes y))

    pub length-put : (c : Chunk) (bytes : List ℕ) → length bytes ≡ n → LiesIn base n c → length (put base bytes c) ≡ n
    length-put c bytes e h =
        let above = h.above in
        let below = h.below in
        length-change (λ l. put base l c) (λ x. c.bytes) (c.address - base) (length c.bytes) (putting base c) bytes (omega (arith, above, below, e)) ∙ e

    pub words-low : (c : Chunk) (bytes : List ℕ) → length bytes ≡ n → LiesIn base n c → All (Inside bytes) (chunk_words base c)
    words-low c bytes e h =
        let above = h.above in
        let below = h.below in
        All-map (Inside bytes) (λ w. c.address - base + w) c.words (All-weaker (Inside c.bytes) (λ w. Inside bytes (c.address - base + w)) (λ w g. omega (arith, g, above, below, e)) c.words h.words)

    abbrev Away : ℕ → Chunk → Type 0
    Away x c = (x + 2 ≤ c.address) ⊎ (c.address + length c.bytes ≤ x)

    abbrev puts : List ℕ → List Chunk → List ℕ
    puts bytes cs = fold (put base) bytes cs

    -- A word that later chunks do not cover.
    puts-away : (a w : ℕ) (cs : List Chunk) (bytes : List ℕ) → length bytes ≡ n → base ≤ a → a + w + 2 ≤ base + n → All (LiesIn base n) cs → All (Away (a + w)) cs
        → puts (add (a - base + w) bytes) cs ≡ add (a - base + w) (puts bytes cs)
    puts-away a w [] bytes e low high all away = refl
    puts-away a w (c ∷ cs) bytes e low high all away =
        let h = All-head (LiesIn base n) c cs all in
        let above = h.above in
        let below = h.below in
        let at = a - base + w in
        let apart : (at + 2 ≤ c.address - base) ⊎ (c.address - base + length c.bytes ≤ at) =
        ⊎_elim (λ l. inl (omega (arith, l, low, above))) (λ l. inr (omega (arith, l, low, above))) (All-head (Away (a + w)) c cs away) in
        ap (λ l. puts l cs) (changes-apart (add at) (λ x. sum_bytes 2 x k) (λ l. put base l c) (λ x. c.bytes) at 2 (c.address - base) (length c.bytes)
        (adding at 2 k) (putting base c) bytes (omega (arith, low, high, e)) (omega (arith, above, below, e)) apart)
        ∙ puts-away a w cs (put base bytes c) (length-put c bytes e h) low high (All-tail (LiesIn base n) c cs all) (All-tail (Away (a + w)) c cs away)

    all-away : (a : ℕ) (ws : List ℕ) (cs : List Chunk) (bytes : List ℕ) → length bytes ≡ n → base ≤ a → All (λ w. a + w + 2 ≤ base + n) ws → All (LiesIn base n) cs → All (λ w. All (Away (a + w)) cs) ws
        → puts (words_moved k (map (λ w. a - base + w) ws) bytes) cs ≡ words_moved k (map (λ w. a - base + w) ws) (puts bytes cs)
    all-away a [] cs bytes e low high all away = refl
    all-away a (w ∷ ws) cs bytes e low high all away =
        let here : a + w + 2 ≤ base + n = All-head (λ w. a + w + 2 ≤ base + n) w ws high in
        let at = a - base + w in
        let kept : length (add at bytes) ≡ n = length-add bytes at 2 k (omega (arith, here, low, e)) ∙ e in
        all-away a ws cs (add at bytes) kept low (All-tail (λ w. a + w + 2 ≤ base + n) w ws high) all (All-tail (λ w. All (Away (a + w)) cs) w ws away)
        ∙ ap (words_moved k (map (λ w. a - base + w) ws)) (puts-away a w cs bytes e low here all (All-head (λ w. All (Away (a + w)) cs) w ws away))

    all-move : (cs : List Chunk) (bytes : List ℕ) → length bytes ≡ n → All (LiesIn base n) cs → AreUncovered cs
        → fold (put (base + 16 * k)) bytes (map (moved_chunk k) cs) ≡ words_moved k (flat_words base cs) (puts bytes cs)
    all-move [] bytes e all free = refl
    all-move (c ∷ cs) bytes e all free =
        let h = All-head (LiesIn base n) c cs all in
        let rest = All-tail (LiesIn base n) c cs all in
        let above = h.above in
        let below = h.below in
        let now = put base bytes c in
        let en = length-put c bytes e h in
        let ws = chunk_words base c in
        let after = words_moved k ws now in
        let ea : length after ≡ n = length-words ws now (words-low c now en h) ∙ en in
        let high : All (λ w. c.address + w + 2 ≤ base + n) c.words = All-weaker (Inside c.bytes) (λ w. c.address + w + 2 ≤ base + n) (λ w g. omega (arith, g, below)) c.words h.words in
        ap (λ l. fold (put (base + 16 * k)) l (map (moved_chunk k) cs)) (put-moves c bytes e h)
        ∙ all-move cs after ea rest free.1
        ∙ ap (words_moved k (flat_words base cs)) (all-away c.address c.words cs now en above high rest free.0)
        ∙ sym (words-append ws (flat_words base cs) (puts now cs))

pub images : ImagesMove
images k base n cs all free = all-move k base n cs (replicate n 0) (length-zeros n) all free
