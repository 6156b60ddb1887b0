-- The walk over values takes those at the numbers, where these rise.
use Rattle.std.proofs.Common.{◌≡◌, ℕ, zero, suc, ◌+◌, ◌<◌, ◌≤◌, ◌∙◌, Bool, true, false, List, [], ◌∷◌, length, refl, sym, ap, subst, inl, inr, arith}
use Rattle.std.specs.Prelude.{◌==◌, ◌||◌, map, filter, slice_index}
use Rattle.std.specs.List.{enumerate_from}
use Rattle.std.specs.List.Sorted.{IsStrictlyIncreasing}
use Rattle.std.proofs.lemmas.Bool.{cond-true, cond-false, cases_Bool, eqb-true, ne_eqb}
use Rattle.omf_exe.specs.Taken.{has_number, numbered_in, values_at}
use Rattle.omf_exe.specs.Inner.Taking.{walked}

-- Each number is a bound or more.
abbrev AreFrom : ℕ → List ℕ → Type 0
AreFrom i ns = (k : ℕ) → k < length ns → i ≤ slice_index ns k

rising-rest : (n : ℕ) (ns : List ℕ) → IsStrictlyIncreasing (n ∷ ns) → IsStrictlyIncreasing ns
rising-rest n ns h k l =
    let same : suc k + 1 ≡ suc (k + 1) = omega arith in
    subst (λ j. slice_index (n ∷ ns) (suc k) < slice_index (n ∷ ns) j) same (h (suc k) (omega (arith, l)))

rest-above : (n : ℕ) (ns : List ℕ) → IsStrictlyIncreasing (n ∷ ns) → AreFrom (n + 1) ns
rest-above n [] h k l = absurd (omega (arith, l))
rest-above n (m ∷ ns) h zero l = let r = h 0 (omega arith) in omega (arith, r)
rest-above n (m ∷ ns) h (suc k) l =
    let r = h 0 (omega arith) in
    let s = rest-above m ns (rising-rest n (m ∷ ns) h) k (omega (arith, l)) in
    omega (arith, r, s)

-- A number that is not in the list, and one below all that are numbered.
not-equal : (n i : ℕ) → i + 1 ≤ n → (n == i) ≡ false
not-equal n i h = ne_eqb n i (λ q. omega arith)

absent : (i : ℕ) (ns : List ℕ) → AreFrom (i + 1) ns → has_number ns i ≡ false
absent i [] h = refl
absent i (n ∷ ns) h = ap (λ b. b || has_number ns i) (not-equal n i (h 0 (omega arith))) ∙ absent i ns (λ k l. h (suc k) (omega (arith, l)))

low-out : {A : Type 0} (n i : ℕ) (ns : List ℕ) (xs : List A) → n + 1 ≤ i → numbered_in i (n ∷ ns) xs ≡ numbered_in i ns xs
low-out n i ns [] h = refl
low-out n i ns (x ∷ xs) h =
    let unlike : (n == i) ≡ false = ne_eqb n i (λ q. omega arith) in
    let same : has_number (n ∷ ns) i ≡ has_number ns i = ap (λ b. b || has_number ns i) unlike in
    elim (cases_Bool (has_number ns i)) [
      | inl b ↦
          ap (λ ps. map (λ p. p.1) ps) (cond-true (has_number (n ∷ ns) i) ((i, x) ∷ filter (λ p. has_number (n ∷ ns) p.0) (enumerate_from (i + 1) xs)) (filter (λ p. has_number (n ∷ ns) p.0) (enumerate_from (i + 1) xs)) (same ∙ b))
          ∙ ap (λ ys. x ∷ ys) (low-out n (i + 1) ns xs (omega (arith, h)))
          ∙ ap (λ ps. map (λ p. p.1) ps) (sym (cond-true (has_number ns i) ((i, x) ∷ filter (λ p. has_number ns p.0) (enumerate_from (i + 1) xs)) (filter (λ p. has_number ns p.0) (enumerate_from (i + 1) xs)) b))
      | inr b ↦
          ap (λ ps. map (λ p. p.1) ps) (cond-false (has_number (n ∷ ns) i) ((i, x) ∷ filter (λ p. has_number (n ∷ ns) p.0) (enumerate_from (i + 1) xs)) (filter (λ p. has_number (n ∷ ns) p.0) (enumerate_from (i + 1) xs)) (same ∙ b))
          ∙ low-out n (i + 1) ns xs (omega (arith, h))
          ∙ ap (λ ps. map (λ p. p.1) ps) (sym (cond-false (has_number ns i) ((i, x) ∷ filter (λ p. has_number ns p.0) (enumerate_from (i + 1) xs)) (filter (λ p. has_number ns p.0) (enumerate_from (i + 1) xs)) b))
    ]

kept : {A : Type 0} (i : ℕ) (ns : List ℕ) (x : A) (xs : List A) → has_number ns i ≡ true → numbered_in i ns (x ∷ xs) ≡ x ∷ numbered_in (i + 1) ns xs
kept i ns x xs b =
    ap (λ ps. map (λ p. p.1) ps) (cond-true (has_number ns i) ((i, x) ∷ filter (λ p. has_number ns p.0) (enumerate_from (i + 1) xs)) (filter (λ p. has_number ns p.0) (enumerate_from (i + 1) xs)) b)

left : {A : Type 0} (i : ℕ) (ns : List ℕ) (x : A) (xs : List A) → has_number ns i ≡ false → numbered_in i ns (x ∷ xs) ≡ numbered_in (i + 1) ns xs
left i ns x xs b =
    ap (λ ps. map (λ p. p.1) ps) (cond-false (has_number ns i) ((i, x) ∷ filter (λ p. has_number ns p.0) (enumerate_from (i + 1) xs)) (filter (λ p. has_number ns p.0) (enumerate_from (i + 1) xs)) b)

or-so : (a b : Bool) → a ≡ true → (a || b) ≡ true
or-so true b e = refl
or-so false b e = absurd cc

is-same : (n i : ℕ) → (n == i) ≡ true → n ≡ i
is-same n i e = eqb-true n i e

is-other : (n i : ℕ) → (n == i) ≡ false → i ≤ n → i + 1 ≤ n
is-other n i e h = grind arith

raised : (i n : ℕ) (ns : List ℕ) → i + 1 ≤ n → AreFrom (n + 1) ns → AreFrom (i + 1) (n ∷ ns)
raised i n ns h a zero l = h
raised i n ns h a (suc k) l = let r = a k (omega (arith, l)) in omega (arith, h, r)

walk-on : {A : Type 0} (i : ℕ) (ns : List ℕ) (xs : List A) → IsStrictlyIncreasing ns → AreFrom i ns → walked i ns xs ≡ numbered_in i ns xs
walk-on i ns [] h a = refl
walk-on i [] (x ∷ xs) h a = walk-on (i + 1) [] xs h (λ k l. absurd (omega (arith, l))) ∙ sym (left i [] x xs refl)
walk-on i (n ∷ ns) (x ∷ xs) h a =
    let above = rest-above n ns h in
    elim (cases_Bool (n == i)) [
      | inl b ↦
          let same : n ≡ i = is-same n i b in
          cond-true (n == i) (x ∷ walked (i + 1) ns xs) (walked (i + 1) (n ∷ ns) xs) b
          ∙ ap (λ ys. x ∷ ys) (walk-on (i + 1) ns xs (rising-rest n ns h) (subst (λ m. AreFrom (m + 1) ns) same above) ∙ sym (low-out n (i + 1) ns xs (omega (arith, same))))
          ∙ sym (kept i (n ∷ ns) x xs (or-so (n == i) (has_number ns i) b))
      | inr b ↦
          let higher : i + 1 ≤ n = is-other n i b (a 0 (omega arith)) in
          let from : AreFrom (i + 1) (n ∷ ns) = raised i n ns higher above in
          cond-false (n == i) (x ∷ walked (i + 1) ns xs) (walked (i + 1) (n ∷ ns) xs) b
          ∙ walk-on (i + 1) (n ∷ ns) xs h from
          ∙ sym (left i (n ∷ ns) x xs (absent i (n ∷ ns) from))
    ]

pub walk_is : {A : Type 0} (ns : List ℕ) (xs : List A) → IsStrictlyIncreasing ns → walked 0 ns xs ≡ values_at ns xs
walk_is ns xs h = walk-on 0 ns xs h (λ k l. omega arith)
