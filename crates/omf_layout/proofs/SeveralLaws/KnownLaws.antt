-- Rows of known places, one more laid segment at a time.
use Rattle.std.proofs.Common.{◌≡◌, ℕ, zero, suc, ◌+◌, ◌-◌, ◌<◌, ◌≤◌, true, false, List, [], ◌∷◌, ◌++◌, length, slice_set, get_or, refl, sym, ap, ap₂, ◌∙◌, inl, inr, arith, Vec, Global}
use Rattle.std.specs.Prelude.{◌==◌, ◌&&◌, map, filter_map, find, cond, option_map, unwrap_or, is_some, Option, Some, None}
use Rattle.std.specs.List.{range_with_len, enumerate_from, cons_option}
use Rattle.std.specs.Option.{option_or}
use Rattle.std.proofs.lemmas.Bool.{true≢false, false≢true, cases_Bool, eqb-true, eq-eqb, and_parts}
use Rattle.std.proofs.lemmas.List.Folds.{find-append}
use Rattle.omf_records.specs.Values.{Rec}
use Rattle.omf_check.specs.Tables.{segments}
use Rattle.omf_placement.specs.declared.frame.Placed.{Placed}
use Rattle.omf_layout.specs.Several.Laying.{Lying}
use Rattle.omf_layout.specs.Several.Placing.{is_of, place_in, segments_in, all_segments_in}
use Rattle.omf_layout.specs.Inner.Known.{row_in, rows_in, no_places, changed_at, or_place, with_place, with_lying}

-- A list with one value changed.
module _ {A : Type 0} (f : A → A) where
  pub changed-past : (xs : List A) (i : ℕ) → length xs ≤ i → changed_at i f xs ≡ xs
  changed-past [] i h = refl
  changed-past (x ∷ xs) zero h = absurd (omega (arith, h))
  changed-past (x ∷ xs) (suc i) h = ap (λ ys. x ∷ ys) (changed-past xs i (omega (arith, h)))

  pub changed-here : (xs : List A) (i : ℕ) (d : A) → i < length xs → changed_at i f xs ≡ slice_set xs i (f (get_or xs i d))
  changed-here [] i d h = absurd (omega (arith, h))
  changed-here (x ∷ xs) zero d h = refl
  changed-here (x ∷ xs) (suc i) d h = ap (λ ys. x ∷ ys) (changed-here xs i d (omega (arith, h)))

  pub changed-same : (xs : List A) (i : ℕ) (d : A) → f (get_or xs i d) ≡ get_or xs i d → changed_at i f xs ≡ xs
  changed-same [] i d h = refl
  changed-same (x ∷ xs) zero d h = ap (λ y. y ∷ xs) h
  changed-same (x ∷ xs) (suc i) d h = ap (λ ys. x ∷ ys) (changed-same xs i d h)

-- A row, by an index from 1.
placed-at : (i : ℕ) (p : Placed) (row : List (Option Placed)) → 1 ≤ i → with_place i p row ≡ changed_at (i - 1) (or_place p) row
placed-at zero p row h = absurd (omega (arith, h))
placed-at (suc i) p row h = let same : i ≡ suc i - 1 = omega arith in ap (λ k. changed_at k (or_place p) row) same

or-known : (p : Placed) (o : Option Placed) → is_some o ≡ true → or_place p o ≡ o
or-known p None h = absurd (false≢true h)
or-known p (Some q) h = refl

or-unknown : (p : Placed) (o : Option Placed) → is_some o ≡ false → or_place p o ≡ Some p
or-unknown p None h = refl
or-unknown p (Some q) h = absurd (true≢false h)

module _ (i k : ℕ) (p : Placed) (row : List (Option Placed)) (same : k ≡ i) where
  with-it : 1 ≤ k → changed_at (k - 1) (or_place p) row ≡ with_place i p row
  with-it h = sym (placed-at k p row h) ∙ ap (λ j. with_place j p row) same

  pub put-none : k ≡ 0 → row ≡ with_place i p row
  put-none z = let none : 0 ≡ i = omega (arith, z, same) in ap (λ j. with_place j p row) none

  pub put-past : 1 ≤ k → length row < k → row ≡ with_place i p row
  put-past h past = sym (changed-past (or_place p) row (k - 1) (omega (arith, h, past))) ∙ with-it h

  pub put-kept : (o : Option Placed) → 1 ≤ k → o ≡ get_or row (k - 1) o → is_some o ≡ true → row ≡ with_place i p row
  put-kept o h is known = sym (changed-same (or_place p) row (k - 1) o (ap (or_place p) (sym is) ∙ or-known p o known ∙ is)) ∙ with-it h

  pub put-here : (o : Option Placed) → 1 ≤ k → k ≤ length row → o ≡ get_or row (k - 1) o → is_some o ≡ false → slice_set row (k - 1) (Some p) ≡ with_place i p row
  put-here o h low is unknown =
      ap (slice_set row (k - 1)) (sym (or-unknown p o unknown) ∙ ap (or_place p) is) ∙ sym (changed-here (or_place p) row (k - 1) o (omega (arith, h, low))) ∙ with-it h

-- Rows, one of which is changed.
pub row-changed : (f : List (Option Placed) → List (Option Placed)) (rs : List (Vec (Option Placed) Global)) (i : ℕ) (d new : Vec (Option Placed) Global) → i < length rs → new.items ≡ f (get_or rs i d).items
    → map (λ r. r.items) (slice_set rs i new) ≡ changed_at i f (map (λ r. r.items) rs)
row-changed f [] i d new h e = absurd (omega (arith, h))
row-changed f (r ∷ rs) zero d new h e = ap (λ xs. xs ∷ map (λ s. s.items) rs) e
row-changed f (r ∷ rs) (suc i) d new h e = ap (λ ys. r.items ∷ ys) (row-changed f rs i d new (omega (arith, h)) e)

-- One more laid segment.
or-none : {A : Type 0} (o : Option A) → option_or o None ≡ o
or-none None = refl
or-none (Some x) = refl

or-some : {A : Type 0} (o : Option A) (x : A) → option_or o (Some x) ≡ Some (unwrap_or o x)
or-some None x = refl
or-some (Some y) x = refl

map-or : {A B : Type 0} (f : A → B) (o p : Option A) → option_map f (option_or o p) ≡ option_or (option_map f o) (option_map f p)
map-or f None p = refl
map-or f (Some x) p = refl

module _ (ls : List Lying) (x : Lying) where
  abbrev a : ℕ
  a = x.0.«module»

  abbrev b : ℕ
  b = x.0.index

  abbrev more : List Lying
  more = ls ++ x ∷ []

  push : (j i : ℕ) → place_in more j i ≡ option_or (place_in ls j i) (option_map (λ y. y.1) (cond ((a == j) && (b == i)) (Some x) None))
  push j i = ap (option_map (λ y. y.1)) (find-append (is_of j i) ls (x ∷ [])) ∙ map-or (λ y. y.1) (find (is_of j i) ls) (find (is_of j i) (x ∷ []))

  place-other : (j i : ℕ) → (a ≡ j → b ≡ i → ⊥) → place_in more j i ≡ place_in ls j i
  place-other j i h = elim (cases_Bool ((a == j) && (b == i))) [
    | inl t ↦ let s = and_parts (a == j) (b == i) t in absurd (h (eqb-true a j s.0) (eqb-true b i s.1))
    | inr t ↦ push j i ∙ ap (λ c. option_or (place_in ls j i) (option_map (λ y. y.1) (cond c (Some x) None))) t ∙ or-none (place_in ls j i)
  ]

  place-same : place_in more a b ≡ or_place x.1 (place_in ls a b)
  place-same = push a b ∙ ap₂ (λ c d. option_or (place_in ls a b) (option_map (λ y. y.1) (cond (c && d) (Some x) None))) (eq-eqb a a refl) (eq-eqb b b refl) ∙ or-some (place_in ls a b) x.1

  -- a row that the segment is not in, and the row that it is in
  row-kept : (j k n : ℕ) → ((i : ℕ) → k ≤ i → a ≡ j → b ≡ i → ⊥) → map (place_in more j) (range_with_len k n) ≡ map (place_in ls j) (range_with_len k n)
  row-kept j k zero h = refl
  row-kept j k (suc n) h = ap₂ (λ y ys. y ∷ ys) (place-other j k (h k (omega arith))) (row-kept j (k + 1) n (λ i low. h i (omega (arith, low))))

  row-more : (k n c : ℕ) → k + c ≡ b → map (place_in more a) (range_with_len k n) ≡ changed_at c (or_place x.1) (map (place_in ls a) (range_with_len k n))
  row-more k zero c e = refl
  row-more k (suc n) zero e =
      let here : b ≡ k = omega (arith, e) in
      ap₂ (λ y ys. y ∷ ys) (ap (place_in more a) (sym here) ∙ place-same ∙ ap (λ i. or_place x.1 (place_in ls a i)) here) (row-kept a (k + 1) n (λ i low s t. omega (arith, low, t, e)))
  row-more k (suc n) (suc c) e = ap₂ (λ y ys. y ∷ ys) (place-other a k (λ s t. omega (arith, t, e))) (row-more (k + 1) n c (omega (arith, e)))

  row-step : (i : ℕ) → i ≡ b → (m : List Rec) → row_in more (a, m) ≡ with_place i x.1 (row_in ls (a, m))
  row-step zero e m = row-kept a 1 (length (segments m)) (λ i low s t. omega (arith, low, t, e))
  row-step (suc i) e m = row-more 1 (length (segments m)) i (omega (arith, e))

  rows-kept : (k : ℕ) (ms : List (List Rec)) → a < k → map (row_in more) (enumerate_from k ms) ≡ map (row_in ls) (enumerate_from k ms)
  rows-kept k [] h = refl
  rows-kept k (m ∷ ms) h = ap₂ (λ y ys. y ∷ ys) (row-kept k 1 (length (segments m)) (λ i low s t. omega (arith, h, s))) (rows-kept (k + 1) ms (omega (arith, h)))

  rows-more : (k : ℕ) (ms : List (List Rec)) (c : ℕ) → k + c ≡ a → map (row_in more) (enumerate_from k ms) ≡ changed_at c (with_place b x.1) (map (row_in ls) (enumerate_from k ms))
  rows-more k [] c e = refl
  rows-more k (m ∷ ms) zero e =
      let here : a ≡ k = omega (arith, e) in
      ap₂ (λ y ys. y ∷ ys) (ap (λ j. row_in more (j, m)) (sym here) ∙ row-step b refl m ∙ ap (λ j. with_place b x.1 (row_in ls (j, m))) here) (rows-kept (k + 1) ms (omega (arith, e)))
  rows-more k (m ∷ ms) (suc c) e = ap₂ (λ y ys. y ∷ ys) (row-kept k 1 (length (segments m)) (λ i low s t. omega (arith, e, s))) (rows-more (k + 1) ms c (omega (arith, e)))

  pub rows-step : (ms : List (List Rec)) → rows_in more ms ≡ with_lying x (rows_in ls ms)
  rows-step ms = rows-more 0 ms a (omega arith)

-- Before the first segment, and after the last.
pub none-known : (k : ℕ) (ms : List (List Rec)) → map (row_in []) (enumerate_from k ms) ≡ map no_places ms
none-known k [] = refl
none-known k (m ∷ ms) = ap (λ ys. no_places m ∷ ys) (none-known (k + 1) ms)

known-in : (g : ℕ → Option Placed) (k n : ℕ) → filter_map (λ p. p) (map g (range_with_len k n)) ≡ filter_map g (range_with_len k n)
known-in g k zero = refl
known-in g k (suc n) = ap (cons_option (g k)) (known-in g (k + 1) n)

all-known : (ls : List Lying) (k : ℕ) (ms : List (List Rec)) → map (filter_map (λ p. p)) (map (row_in ls) (enumerate_from k ms)) ≡ map (segments_in ls) (enumerate_from k ms)
all-known ls k [] = refl
all-known ls k (m ∷ ms) = ap₂ (λ y ys. y ∷ ys) (known-in (place_in ls k) 1 (length (segments m))) (all-known ls (k + 1) ms)

pub segments-known : (ls : List Lying) (ms : List (List Rec)) → map (filter_map (λ p. p)) (rows_in ls ms) ≡ all_segments_in ls ms
segments-known ls ms = all-known ls 0 ms
