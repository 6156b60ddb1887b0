-- Indices in ascending order: the last one is the greatest, and a binary search finds them.
use Rattle.std.proofs.Common.{◌≡◌, inl, inr, ℕ, ◌-◌, ◌<◌, ◌≤◌, Bool, true, false, List, [], ◌∷◌, ◌++◌, Result, Ok, Err, get_or, length, refl, sym, ap, subst, ◌∙◌, arith}
use Rattle.std.specs.Prelude.{Some, nat_lt, slice_get, ◌==◌}
use Rattle.std.specs.List.{list_all}
use Rattle.std.specs.List.Sorted.{IsBinarySearchResult, IsStrictlyIncreasing}
use Rattle.std.specs.Ordering.{nat_cmp}
use Rattle.std.specs.Result.{MatchResult, is_ok}
use Rattle.std.proofs.lemmas.Bool.{cases_lt, eq-eqb, lt-ltb, ltb-true, ne_eqb}
use Rattle.std.proofs.lemmas.List.Elements.{All-contains, All-from_get_or}
use Rattle.std.proofs.lemmas.List.Folds.{list_all_at, list_any_at, list_any_none}
use Rattle.std.proofs.lemmas.List.Kept.{AllPairs-from_increasing}
use Rattle.std.proofs.lemmas.List.Sorted.{searched}
use Rattle.std.proofs.lemmas.List.Sums.{AllPass-from_list_all, list_all-from_AllPass}
use Rattle.std.proofs.lemmas.Option.{get_or_from_slice_get, slice_get_within}
use Rattle.omf_frame.specs.Bytes.{is_one_of}
use Rattle.omf_finding.proofs.WindowLaws.{rises-push}

rises : (xs : List ℕ) → IsStrictlyIncreasing xs → (i j : ℕ) → i ≤ j → j < length xs → get_or xs i 0 ≤ get_or xs j 0
rises xs h i j low end = elim (cases_lt i j) [
  | inl l ↦ let s : get_or xs i 0 < get_or xs j 0 = AllPairs-from_increasing xs h i j 0 l end in omega (arith, s)
  | inr g ↦ let e : i ≡ j = omega (arith, low, g) in subst (λ (k : ℕ). get_or xs i 0 ≤ get_or xs k 0) e (omega arith)
]

-- What a binary search answers is whether there is the index.
pub has-index : (xs : List ℕ) (x : ℕ) (r : Result ℕ ℕ) → IsStrictlyIncreasing xs → IsBinarySearchResult (λ y. nat_cmp y x) xs r → is_ok r ≡ is_one_of xs x
has-index xs x r h s = by r (searched xs x r s (rises xs h))
  where
    by : (q : Result ℕ ℕ) → MatchResult q (λ i. (i < length xs) × (get_or xs i 0 ≡ x)) (λ i. (i ≤ length xs) × ((k : ℕ) → k < i → get_or xs k 0 < x) × ((k : ℕ) → i ≤ k → k < length xs → x < get_or xs k 0)) → is_ok q ≡ is_one_of xs x
    by (Ok i) f = sym (list_any_at (λ (k : ℕ). k == x) xs i 0 f.0 (eq-eqb (get_or xs i 0) x f.1))
    by (Err i) f = sym (list_any_none (λ (k : ℕ). k == x) xs (All-from_get_or (λ (k : ℕ). (k == x) ≡ false) xs 0 other))
      where
        other : (k : ℕ) → k < length xs → (get_or xs k 0 == x) ≡ false
        other k low = elim (cases_lt k i) [
          | inl l ↦ let s = f.1 k l in ne_eqb (get_or xs k 0) x (λ e. omega (arith, s, e))
          | inr g ↦ let s = f.2 k g low in ne_eqb (get_or xs k 0) x (λ e. omega (arith, s, e))
        ]

-- All are below a number if the last one is.
pub all-below : (xs : List ℕ) (l n : ℕ) → IsStrictlyIncreasing xs → slice_get xs (length xs - 1) ≡ Some l → nat_lt l n ≡ list_all (λ k. nat_lt k n) xs
all-below xs l n h e = by (nat_lt l n) refl
  where
    end : length xs - 1 < length xs
    end = slice_get_within xs (length xs - 1) l e

    last : get_or xs (length xs - 1) 0 ≡ l
    last = get_or_from_slice_get xs (length xs - 1) l 0 e

    by : (b : Bool) → nat_lt l n ≡ b → b ≡ list_all (λ k. nat_lt k n) xs
    by true t = sym (list_all-from_AllPass (λ k. nat_lt k n) xs (All-from_get_or (λ k. nat_lt k n ≡ true) xs 0 each))
      where
        each : (i : ℕ) → i < length xs → nat_lt (get_or xs i 0) n ≡ true
        each i low =
            let most = rises xs h i (length xs - 1) (omega (arith, low)) end in
            let s = ltb-true l n t in
            lt-ltb (get_or xs i 0) n (omega (arith, most, last, s))
    by false t = sym (list_all_at (λ k. nat_lt k n) xs (length xs - 1) 0 end (ap (λ k. nat_lt k n) last ∙ t))

-- One more that is greater than all.
pub one-more-rises : (xs : List ℕ) (n : ℕ) → list_all (λ k. nat_lt k n) xs ≡ true → IsStrictlyIncreasing xs → IsStrictlyIncreasing (xs ++ n ∷ [])
one-more-rises xs n e h = rises-push xs n h (λ x there. ltb-true x n (All-contains (λ k. nat_lt k n ≡ true) xs x (AllPass-from_list_all (λ k. nat_lt k n) xs e) there))
