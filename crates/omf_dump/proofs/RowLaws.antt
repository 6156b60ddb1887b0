-- How bytes are cut into lines of 16.
use Rattle.std.proofs.Common.{◌≡◌, ℕ, zero, suc, ◌+◌, ◌-◌, ◌*◌, ◌/◌, ◌<◌, List, [], ◌++◌, length, take, drop, min, ◌⊎◌, inl, inr, refl, sym, ap, ap₂, subst, ◌∙◌, arith, append_assoc, add-zero}
use Rattle.std.specs.Prelude.{flat_map}
use Rattle.std.specs.List.{range_with_len}
use Rattle.std.proofs.Math.Nat.{eq-or-lt_of_le}
use Rattle.std.proofs.lemmas.List.{drop-drop, drop_min, length-drop, length-take, take_min}
use Rattle.omf_dump.specs.Render.{row, rows}

-- every number one higher
range_shifted : (f : ℕ → List ℕ) (a n : ℕ) → flat_map f (range_with_len (a + 1) n) ≡ flat_map (λ k. f (k + 1)) (range_with_len a n)
range_shifted f a zero = refl
range_shifted f a (suc n) = ap (λ (t : List ℕ). f (a + 1) ++ t) (range_shifted f (a + 1) n)

-- what is the same of each number
range_same : (f g : ℕ → List ℕ) (a n : ℕ) → ((k : ℕ) → k < n → f (a + k) ≡ g (a + k)) → flat_map f (range_with_len a n) ≡ flat_map g (range_with_len a n)
range_same f g a zero h = refl
range_same f g a (suc n) h =
    let first : f a ≡ g a = subst (λ (x : ℕ). f x ≡ g x) (add-zero a) (h 0 (omega arith)) in
    let next : (k : ℕ) → k < n → f (a + 1 + k) ≡ g (a + 1 + k) = λ k lt. let e : a + suc k ≡ a + 1 + k = omega arith in subst (λ (x : ℕ). f x ≡ g x) e (h (suc k) (omega arith)) in
    ap₂ (λ (s t : List ℕ). s ++ t) first (range_same f g (a + 1) n next)

-- no bytes give no line
pub no_rows : (first : ℕ) (bytes : List ℕ) → length bytes ≡ 0 → rows first bytes ≡ []
no_rows first bytes e =
    let none : (length bytes + 15) / 16 ≡ 0 = omega arith in
    rw none refl

abbrev nth_row : ℕ → List ℕ → ℕ → List ℕ
nth_row first bytes k = row (first + 16 * k) (take 16 (drop (16 * k) bytes))

later_row : (first : ℕ) (bytes : List ℕ) (k : ℕ) → nth_row first bytes (k + 1) ≡ nth_row (first + 16) (drop 16 bytes) k
later_row first bytes k =
    let stands : first + 16 * (k + 1) ≡ first + 16 + 16 * k = omega arith in
    let at : 16 * (k + 1) ≡ 16 + 16 * k = omega arith in
    ap₂ (λ (x : ℕ) (bs : List ℕ). row x (take 16 bs)) stands (ap (λ (n : ℕ). drop n bytes) at ∙ sym (drop-drop (16 * k) 16 bytes))

-- the first line, and then those of what is left
next_row : (first : ℕ) (bytes : List ℕ) → 0 < length bytes → rows first bytes ≡ row first (take 16 bytes) ++ rows (first + 16) (drop 16 bytes)
next_row first bytes some =
    let left = length-drop 16 bytes in
    let count : (length bytes + 15) / 16 ≡ suc ((length (drop 16 bytes) + 15) / 16) = omega arith in
    let n : ℕ = (length (drop 16 bytes) + 15) / 16 in
    let front : nth_row first bytes 0 ≡ row first (take 16 bytes) = ap (λ (x : ℕ). row x (take 16 bytes)) (add-zero first) in
    let others : flat_map (nth_row first bytes) (range_with_len (0 + 1) n) ≡ rows (first + 16) (drop 16 bytes) =
    range_shifted (nth_row first bytes) 0 n
    ∙ range_same (λ k. nth_row first bytes (k + 1)) (nth_row (first + 16) (drop 16 bytes)) 0 n (λ k _. later_row first bytes (0 + k)) in
    ap (λ (m : ℕ). flat_map (nth_row first bytes) (range_with_len 0 m)) count ∙ ap₂ (λ (s t : List ℕ). s ++ t) front others

-- without bytes it does not matter where the lines would begin
same_rows : (first offset : ℕ) (bytes : List ℕ) → (first ≡ offset) ⊎ (length bytes ≡ 0) → rows first bytes ≡ rows offset bytes
same_rows first offset bytes (inl e) = ap (λ (x : ℕ). rows x bytes) e
same_rows first offset bytes (inr none) = no_rows first bytes none ∙ sym (no_rows offset bytes none)

full_or_last : (n size left : ℕ) → n ≡ min 16 size → left ≡ size - 16 → (offset : ℕ) → (n ≡ 16) ⊎ (n < 16) → (offset + n ≡ offset + 16) ⊎ (left ≡ 0)
full_or_last n size left is rest offset (inl full) = inl (ap (λ (k : ℕ). offset + k) full)
full_or_last n size left is rest offset (inr last) = inr (omega arith)

-- a line was written, and the lines of what is left are still to come
pub row_written : (offset n : ℕ) (rest front back old mid whole : List ℕ) → 0 < length rest → n ≡ min (length rest) 16 → front ≡ take n rest → back ≡ drop n rest
    → mid ≡ old ++ row offset front → old ++ rows offset rest ≡ whole → mid ++ rows (offset + length front) back ≡ whole
row_written offset n rest front back old mid whole some size fronts backs printed before =
    let least : n ≡ min 16 (length rest) = omega arith in
    let front_is : front ≡ take 16 rest = fronts ∙ ap (λ (k : ℕ). take k rest) least ∙ take_min 16 rest in
    let back_is : back ≡ drop 16 rest = backs ∙ ap (λ (k : ℕ). drop k rest) least ∙ drop_min 16 rest in
    let long : length front ≡ min 16 (length rest) = ap length front_is ∙ length-take 16 rest in
    let left : length back ≡ length rest - 16 = ap length back_is ∙ length-drop 16 rest in
    let at : (length front ≡ 16) ⊎ (length front < 16) = eq-or-lt_of_le (omega arith) in
    let others : rows (offset + length front) back ≡ rows (offset + 16) (drop 16 rest) =
    same_rows (offset + length front) (offset + 16) back (full_or_last (length front) (length rest) (length back) long left offset at) ∙ ap (rows (offset + 16)) back_is in
    ap₂ (λ (s t : List ℕ). s ++ t) (printed ∙ ap (λ (t : List ℕ). old ++ row offset t) front_is) others
    ∙ append_assoc old (row offset (take 16 rest)) (rows (offset + 16) (drop 16 rest))
    ∙ ap (λ (t : List ℕ). old ++ t) (sym (next_row offset rest some)) ∙ before
