-- A table of places by two numbers, which holds the first of each, grows entry by entry.
use Rattle.std.proofs.Common.{◌≡◌, ℕ, true, false, Bool, List, [], ◌∷◌, ◌++◌, refl, sym, ap, ap₂, ◌∙◌, inl, inr, arith, nat_cmp, Ordering, Less, Equal, Greater, Bor, not}
use Rattle.std.specs.Prelude.{◌==◌, ◌&&◌, find, option_map, is_some, nat_lt, Option, Some, None, cond}
use Rattle.std.specs.BTreeMap.{BTreeMap, get, Updates}
use Rattle.std.specs.Option.{option_copied, option_or}
use Rattle.std.specs.Ordering.{is_eq, ordering_then}
use Rattle.std.proofs.lemmas.Bool.{true≢false, false≢true, cond-true, cond-false, cases_Bool, eqb-true, eq-eqb, and_parts, and_cases, le-ltb}
use Rattle.std.proofs.lemmas.List.Folds.{find-append}
use Rattle.omf_placement.specs.declared.frame.Placed.{Placed}

abbrev pub Map : Type 0
Map = BTreeMap (ℕ × ℕ) Placed

abbrev pub pair_cmp : ℕ × ℕ → ℕ × ℕ → Ordering
pair_cmp x y = ordering_then (nat_cmp x.0 y.0) (nat_cmp x.1 y.1)

-- two keys are equal or not
nat-equal : (a : ℕ) → nat_cmp a a ≡ Equal
nat-equal a = ap (λ b. cond b Less (cond (a == a) Equal Greater)) (le-ltb a a (omega arith)) ∙ ap (λ b. cond b Equal Greater) (eq-eqb a a refl)

pair-same : (a b c d : ℕ) → a ≡ c → b ≡ d → is_eq (pair_cmp (a, b) (c, d)) ≡ true
pair-same a b c d e f = ap₂ (λ x y. is_eq (pair_cmp (a, b) (x, y))) (sym e) (sym f) ∙ ap₂ (λ o p. is_eq (ordering_then o p)) (nat-equal a) (nat-equal b)

first-other : (t : Bool) (o : Ordering) → is_eq (ordering_then (cond t Less Greater) o) ≡ false
first-other true o = refl
first-other false o = refl

second-other : (o : Ordering) (t : Bool) → is_eq (ordering_then o (cond t Less Greater)) ≡ false
second-other Less t = refl
second-other Equal true = refl
second-other Equal false = refl
second-other Greater t = refl

pair-other : (a b c d : ℕ) → ((a == c) && (b == d)) ≡ false → is_eq (pair_cmp (a, b) (c, d)) ≡ false
pair-other a b c d e = elim (and_cases (a == c) (b == d) e) [
  | inl f ↦ ap (λ x. is_eq (ordering_then (cond (nat_lt a c) Less (cond x Equal Greater)) (nat_cmp b d))) f ∙ first-other (nat_lt a c) (nat_cmp b d)
  | inr f ↦ ap (λ x. is_eq (ordering_then (nat_cmp a c) (cond (nat_lt b d) Less (cond x Equal Greater)))) f ∙ second-other (nat_cmp a c) (nat_lt b d)
]

or-none : {A : Type 0} (o : Option A) → option_or o None ≡ o
or-none None = refl
or-none (Some x) = refl

map-or : {A B : Type 0} (f : A → B) (o p : Option A) → option_map f (option_or o p) ≡ option_or (option_map f o) (option_map f p)
map-or f None p = refl
map-or f (Some x) p = refl

-- entries, each with its two numbers and its place
module _ {A : Type 0} (key : A → ℕ × ℕ) (place : A → Placed) where
  -- the place of the first entry with two numbers
  abbrev pub first_with : List A → ℕ → ℕ → Option Placed
  first_with xs j i = option_map place (find (λ x. ((key x).0 == j) && ((key x).1 == i)) xs)

  abbrev pub IsTable : Map → List A → Type 0
  IsTable m xs = (j i : ℕ) → get pair_cmp m (j, i) ≡ first_with xs j i

  -- one more entry
  module _ (xs : List A) (x : A) where
    abbrev a : ℕ
    a = (key x).0

    abbrev b : ℕ
    b = (key x).1

    push : (j i : ℕ) → first_with (xs ++ x ∷ []) j i ≡ option_or (first_with xs j i) (first_with (x ∷ []) j i)
    push j i = ap (option_map place) (find-append (λ y. ((key y).0 == j) && ((key y).1 == i)) xs (x ∷ [])) ∙ map-or place (find (λ y. ((key y).0 == j) && ((key y).1 == i)) xs) (find (λ y. ((key y).0 == j) && ((key y).1 == i)) (x ∷ []))

    here : (j i : ℕ) → ((a == j) && (b == i)) ≡ true → first_with (x ∷ []) j i ≡ Some (place x)
    here j i e = ap (λ t. option_map place (cond t (Some x) None)) e

    elsewhere : (j i : ℕ) → ((a == j) && (b == i)) ≡ false → first_with (xs ++ x ∷ []) j i ≡ first_with xs j i
    elsewhere j i e = push j i ∙ ap (λ t. option_or (first_with xs j i) (option_map place (cond t (Some x) None))) e ∙ or-none (first_with xs j i)

    -- there is already an entry with these numbers
    pub again : (m : Map) (p : Placed) → get pair_cmp m (a, b) ≡ Some p → IsTable m xs → IsTable m (xs ++ x ∷ [])
    again m p e h j i = elim (cases_Bool ((a == j) && (b == i))) [
      | inl t ↦
          let s = and_parts (a == j) (b == i) t in
          let k : get pair_cmp m (j, i) ≡ Some p = ap₂ (λ y z. get pair_cmp m (y, z)) (sym (eqb-true a j s.0)) (sym (eqb-true b i s.1)) ∙ e in
          k ∙ sym (push j i ∙ ap (λ o. option_or o (first_with (x ∷ []) j i)) (sym (h j i) ∙ k))
      | inr t ↦ h j i ∙ sym (elsewhere j i t)
    ]

    -- it is the first with its numbers
    pub first : (m n : Map) → get pair_cmp m (a, b) ≡ None → Updates pair_cmp m n (a, b) (Some (place x)) → IsTable m xs → IsTable n (xs ++ x ∷ [])
    first m n e u h j i = elim (cases_Bool ((a == j) && (b == i))) [
      | inl t ↦
          let s = and_parts (a == j) (b == i) t in
          let none : get pair_cmp m (j, i) ≡ None = ap₂ (λ y z. get pair_cmp m (y, z)) (sym (eqb-true a j s.0)) (sym (eqb-true b i s.1)) ∙ e in
          u.0 (j, i) ∙ cond-true (is_eq (pair_cmp (a, b) (j, i))) (Some (place x)) (get pair_cmp m (j, i)) (pair-same a b j i (eqb-true a j s.0) (eqb-true b i s.1))
          ∙ sym (push j i ∙ ap₂ (λ o q. option_or o q) (sym (h j i) ∙ none) (here j i t))
      | inr t ↦
          u.0 (j, i) ∙ cond-false (is_eq (pair_cmp (a, b) (j, i))) (Some (place x)) (get pair_cmp m (j, i)) (pair-other a b j i t)
          ∙ h j i ∙ sym (elsewhere j i t)
    ]

-- The result of a lookup.
pub looked-none : (o : Option (Bor Placed)) (b : Bool) → is_some o ≡ not b → b ≡ true → option_copied o ≡ None
looked-none None b e t = refl
looked-none (Some x) b e t = absurd (true≢false (e ∙ ap not t))

pub looked-some : (o : Option (Bor Placed)) (b : Bool) → is_some o ≡ not b → b ≡ false → (p : Placed) × (option_copied o ≡ Some p)
looked-some None b e f = absurd (false≢true (e ∙ ap not f))
looked-some (Some x) b e f = (x.now, refl)
