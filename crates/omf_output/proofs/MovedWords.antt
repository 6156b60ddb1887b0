-- What words that are moved mean, byte for byte.
use Rattle.std.proofs.Common.{◌≡◌, ◌⊎◌, ℕ, ◌+◌, ◌*◌, ◌-◌, ◌<◌, ◌≤◌, List, [], ◌∷◌, ◌++◌, length, refl, sym, ◌∙◌, ap, ap₂, ⊎_elim, inl, inr, arith, length-append, get_or-drop}
use Rattle.std.specs.Prelude.{All, ◌%◌, slice_index}
use Rattle.std.proofs.lemmas.List.{append_assoc, drop_at, get_or-append_right}
use Rattle.std.proofs.lemmas.List.Elements.{All-nil, All-cons, All-head, All-tail, All-weaker}
use Rattle.std.proofs.Math.ListN.{get_or-append}
use Rattle.byteorder.specs.Endian.{little_number}
use Rattle.byteorder.specs.Numbers.{little_from-append, little_number-reads_back}
use Rattle.omf_image.specs.Inner.Names.{sum_bytes}
use Rattle.omf_image.specs.Parts.{add_part}
use Rattle.omf_output.specs.Exe.Loading.{word}
use Rattle.omf_output.specs.Exe.Relocations.{words_moved}
use Rattle.omf_output.specs.Exe.Words.{AreApart}
use Rattle.omf_output.specs.Exe.Laws.{WordsAreMoved}
use Rattle.omf_output.proofs.ChangeLaws.{IsChange, front_of, number_of, back_of, split, length-front, length-number}
use Rattle.omf_output.proofs.ImageMoves.{length-words}
use Rattle.omf_output.proofs.WordLaws.{adding, length-add}

-- A change is felt nowhere else.
elsewhere : (R r : List ℕ → List ℕ) (pos n : ℕ) → IsChange R r pos n → (bytes : List ℕ) (x : ℕ) → pos + n ≤ length bytes → (x < pos) ⊎ (pos + n ≤ x) → slice_index (R bytes) x ≡ slice_index bytes x
elsewhere R r pos n i bytes x h away =
    let a = front_of bytes pos in
    let m = number_of bytes pos n in
    let c = back_of bytes pos n in
    let la = length-front bytes pos n h in
    let lm = length-number bytes pos n h in
    let lr = i.long m lm in
    let new : R bytes ≡ a ++ (r m ++ c) = ap R (split bytes pos n) ∙ i.at a m c la lm in
    let at : (q : List ℕ) → length q ≡ n → slice_index (a ++ (q ++ c)) x ≡ ⊎_elim (λ l. slice_index a x) (λ l. slice_index c (x - (pos + n))) away = λ q lq. by q lq away in
    ap (λ l. slice_index l x) new ∙ at (r m) lr ∙ sym (at m lm) ∙ sym (ap (λ l. slice_index l x) (split bytes pos n))
  where
    by : (q : List ℕ) → length q ≡ n → (o : (x < pos) ⊎ (pos + n ≤ x))
        → slice_index (front_of bytes pos ++ (q ++ back_of bytes pos n)) x ≡ ⊎_elim (λ l. slice_index (front_of bytes pos) x) (λ l. slice_index (back_of bytes pos n) (x - (pos + n))) o
    by q lq (inl l) = get_or-append (front_of bytes pos) (q ++ back_of bytes pos n) 0 x (omega (arith, l, length-front bytes pos n h))
    by q lq (inr l) =
        ap (λ z. slice_index z x) (sym (append_assoc (front_of bytes pos) q (back_of bytes pos n)))
        ∙ get_or-append_right (front_of bytes pos ++ q) (back_of bytes pos n) (pos + n) x 0 (omega (arith, lq, length-front bytes pos n h, length-append (front_of bytes pos) q)) l

module _ (k : ℕ) where
  abbrev add : ℕ → List ℕ → List ℕ
  add w bytes = add_part bytes w 2 k

  byte-kept : (w x : ℕ) (bytes : List ℕ) → w + 2 ≤ length bytes → (x < w) ⊎ (w + 2 ≤ x) → slice_index (add w bytes) x ≡ slice_index bytes x
  byte-kept w x bytes h away = elsewhere (add w) (λ m. sum_bytes 2 m k) w 2 (adding w 2 k) bytes x h away

  -- A word by its two bytes.
  by-bytes : (old new : List ℕ) (v : ℕ) → slice_index new (v + 0) ≡ slice_index old (v + 0) → slice_index new (v + 1) ≡ slice_index old (v + 1) → word new v ≡ word old v
  by-bytes old new v e f =
      ap₂ (λ a b. a + 256 * (b + 0)) (get_or-drop v new 0 0 ∙ e ∙ sym (get_or-drop v old 0 0)) (get_or-drop v new 1 0 ∙ f ∙ sym (get_or-drop v old 1 0))

  abbrev Beside : ℕ → ℕ → Type 0
  Beside w v = (w + 2 ≤ v) ⊎ (v + 2 ≤ w)

  word-kept : (w v : ℕ) (bytes : List ℕ) → w + 2 ≤ length bytes → Beside w v → word (add w bytes) v ≡ word bytes v
  word-kept w v bytes h away =
      let first : (v + 0 < w) ⊎ (w + 2 ≤ v + 0) = ⊎_elim (λ l. inr (omega (arith, l))) (λ l. inl (omega (arith, l))) away in
      let second : (v + 1 < w) ⊎ (w + 2 ≤ v + 1) = ⊎_elim (λ l. inr (omega (arith, l))) (λ l. inl (omega (arith, l))) away in
      by-bytes bytes (add w bytes) v (byte-kept w (v + 0) bytes h first) (byte-kept w (v + 1) bytes h second)

  word-added : (w : ℕ) (bytes : List ℕ) → w + 2 ≤ length bytes → word (add w bytes) w ≡ (word bytes w + k) % 65536
  word-added w bytes h =
      let a = front_of bytes w in
      let m = number_of bytes w 2 in
      let c = back_of bytes w 2 in
      let la = length-front bytes w 2 h in
      let lm = length-number bytes w 2 h in
      let y = (little_number 2 m + k) % 65536 in
      let low : y < 65536 = omega arith in
      let old : word bytes w ≡ little_number 2 m =
      ap (λ l. word l w) (split bytes w 2) ∙ ap (little_number 2) (drop_at a (m ++ c) w la) ∙ little_from-append 2 m c (omega (arith, lm)) in
      let new : word (add w bytes) w ≡ y =
      ap (λ l. word l w) (ap (add w) (split bytes w 2) ∙ (adding w 2 k).at a m c la lm) ∙ ap (little_number 2) (drop_at a (sum_bytes 2 m k ++ c) w la) ∙ little_number-reads_back 2 y c low in
      new ∙ ap (λ x. (x + k) % 65536) (sym old)

  abbrev Inside : List ℕ → ℕ → Type 0
  Inside bytes w = w + 2 ≤ length bytes

  keep : (bytes : List ℕ) (w : ℕ) (ws : List ℕ) → w + 2 ≤ length bytes → All (Inside bytes) ws → All (Inside (add w bytes)) ws
  keep bytes w ws h all = let kept = length-add bytes w 2 k h in All-weaker (Inside bytes) (Inside (add w bytes)) (λ v g. omega (arith, g, kept)) ws all

  -- Words that no other overlaps.
  words-kept : (ws : List ℕ) (v : ℕ) (bytes : List ℕ) → All (Inside bytes) ws → All (Beside v) ws → word (words_moved k ws bytes) v ≡ word bytes v
  words-kept [] v bytes all away = refl
  words-kept (w ∷ ws) v bytes all away =
      let here = All-head (Inside bytes) w ws all in
      words-kept ws v (add w bytes) (keep bytes w ws here (All-tail (Inside bytes) w ws all)) (All-tail (Beside v) w ws away)
      ∙ word-kept w v bytes here (⊎_elim (λ l. inr l) (λ l. inl l) (All-head (Beside v) w ws away))

  abbrev Away : ℕ → ℕ → Type 0
  Away x at = (x < at) ⊎ (at + 2 ≤ x)

  bytes-kept : (ws : List ℕ) (x : ℕ) (bytes : List ℕ) → All (Inside bytes) ws → All (Away x) ws → slice_index (words_moved k ws bytes) x ≡ slice_index bytes x
  bytes-kept [] x bytes all away = refl
  bytes-kept (w ∷ ws) x bytes all away =
      let here = All-head (Inside bytes) w ws all in
      bytes-kept ws x (add w bytes) (keep bytes w ws here (All-tail (Inside bytes) w ws all)) (All-tail (Away x) w ws away) ∙ byte-kept w x bytes here (All-head (Away x) w ws away)

  abbrev Moved : List ℕ → List ℕ → ℕ → Type 0
  Moved old new at = word new at ≡ (word old at + k) % 65536

  -- The words after one that was moved.
  behind : (w : ℕ) (ws bytes new : List ℕ) → w + 2 ≤ length bytes → All (Beside w) ws → All (Moved (add w bytes) new) ws → All (Moved bytes new) ws
  behind w [] bytes new h away all = All-nil (Moved bytes new)
  behind w (v ∷ ws) bytes new h away all =
      All-cons (Moved bytes new) v ws (All-head (Moved (add w bytes) new) v ws all ∙ ap (λ x. (x + k) % 65536) (word-kept w v bytes h (All-head (Beside w) v ws away)))
      (behind w ws bytes new h (All-tail (Beside w) v ws away) (All-tail (Moved (add w bytes) new) v ws all))

  each-moved : (ws bytes : List ℕ) → All (Inside bytes) ws → AreApart ws → All (Moved bytes (words_moved k ws bytes)) ws
  each-moved [] bytes all free = All-nil (Moved bytes bytes)
  each-moved (w ∷ ws) bytes all free =
      let here = All-head (Inside bytes) w ws all in
      let rest = keep bytes w ws here (All-tail (Inside bytes) w ws all) in
      let new = words_moved k ws (add w bytes) in
      All-cons (Moved bytes new) w ws (words-kept ws w (add w bytes) rest free.0 ∙ word-added w bytes here)
      (behind w ws bytes new here free.0 (each-moved ws (add w bytes) rest free.1))

pub are-moved : WordsAreMoved
are-moved k words bytes all free = record { each = each-moved k words bytes all free; others = λ x away. bytes-kept k words x bytes all away; long = length-words k words bytes all }
