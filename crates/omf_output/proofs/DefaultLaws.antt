-- A table of how the defaults of weak externals move grows pair by pair, and keeps the first of each external.
use Rattle.std.proofs.Common.{◌≡◌, ◌≤◌, ℕ, zero, suc, take, length, List, [], ◌∷◌, ◌++◌, refl, sym, ap, ap₂, ◌∙◌, subst, inl, inr, append-nil, arith, nat_cmp, Ordering, Less, Equal, Greater, Bool, true, false}
use Rattle.std.specs.Prelude.{◌==◌, cond, filter_map, nat_lt, Option, Some, None, slice_get, is_some}
use Rattle.std.specs.BTreeMap.{BTreeMap, get, Updates}
use Rattle.std.specs.List.{cons_option}
use Rattle.std.specs.Ordering.{is_eq}
use Rattle.std.proofs.lemmas.Bool.{cases_Bool, cond-true, cond-false, eq-eqb, eqb-true, le-ltb}
use Rattle.std.proofs.lemmas.List.Elements.{filter_map-append}
use Rattle.std.proofs.lemmas.Option.{none-some}
use Rattle.omf_placement.specs.declared.several.pairs.WeakPair.{WeakPair}
use Rattle.omf_output.specs.declared.exe.movers.Moving.{Moving}
use Rattle.omf_output.specs.Exe.Derived.{default_in, default_moving}
use Rattle.omf_output.specs.Inner.Referred.{HasPair, IsDefaultTable}

abbrev pub Map : Type 0
Map = BTreeMap ℕ Moving

equal : (a : ℕ) → is_eq (nat_cmp a a) ≡ true
equal a = ap (λ b. is_eq (cond b Less (cond (a == a) Equal Greater))) (le-ltb a a (omega arith)) ∙ ap (λ b. is_eq (cond b Equal Greater)) (eq-eqb a a refl)

other-way : (t : Bool) → is_eq (cond t Less Greater) ≡ false
other-way true = refl
other-way false = refl

unequal : (a b : ℕ) → (a == b) ≡ false → is_eq (nat_cmp a b) ≡ false
unequal a b e = ap (λ x. is_eq (cond (nat_lt a b) Less (cond x Equal Greater))) e ∙ other-way (nat_lt a b)

-- The first of a list with one more at its end.
first-kept : (xs ys : List Moving) (v : Moving) → slice_get xs 0 ≡ Some v → slice_get (xs ++ ys) 0 ≡ Some v
first-kept [] ys v e = absurd (none-some v e)
first-kept (x ∷ xs) ys v e = e

first-new : (xs : List Moving) (v : Moving) → slice_get xs 0 ≡ None → slice_get (xs ++ v ∷ []) 0 ≡ Some v
first-new [] v e = refl
first-new (x ∷ xs) v e = absurd (none-some x (sym e))

module _ (single : ℕ → Option Moving) (pairs : List WeakPair) (p : WeakPair) where
  more : (i : ℕ) → default_moving single (pairs ++ p ∷ []) i ≡ slice_get (filter_map (default_in single i) pairs ++ cons_option (cond (p.weak == i) (single p.substitute) None) []) 0
  more i = ap (λ xs. slice_get xs 0) (filter_map-append (default_in single i) pairs (p ∷ []))

  -- A pair of another external, or one that gives nothing, changes nothing.
  kept : (i : ℕ) → cond (p.weak == i) (single p.substitute) None ≡ None → default_moving single (pairs ++ p ∷ []) i ≡ default_moving single pairs i
  kept i e = more i ∙ ap (λ o. slice_get (filter_map (default_in single i) pairs ++ cons_option o []) 0) e ∙ ap (λ xs. slice_get xs 0) (append-nil (filter_map (default_in single i) pairs))

neither : (b : Bool) (o : Option Moving) → o ≡ None → cond b o None ≡ None
neither true o e = e
neither false o e = refl

pub no-pair : (t : Map) (p : WeakPair) → HasPair t t p None
no-pair t p single pairs e h i = h i ∙ sym (kept single pairs p i (neither (p.weak == i) (single p.substitute) e))

module _ (p : WeakPair) (v : Moving) where
  -- The external has an entry already.
  pub again : (t : Map) (w : Moving) → get nat_cmp t p.weak ≡ Some w → HasPair t t p (Some v)
  again t w g single pairs e h i = elim (cases_Bool (p.weak == i)) [
    | inl b ↦
        let this : p.weak ≡ i = eqb-true p.weak i b in
        let there : get nat_cmp t i ≡ Some w = ap (get nat_cmp t) (sym this) ∙ g in
        there ∙ sym (more single pairs p i ∙ first-kept (filter_map (default_in single i) pairs) _ w (sym (h i) ∙ there))
    | inr b ↦ h i ∙ sym (kept single pairs p i (cond-false (p.weak == i) (single p.substitute) None b))
  ]

  -- It is the first of the external.
  pub first : (t u : Map) → get nat_cmp t p.weak ≡ None → Updates nat_cmp t u p.weak (Some v) → HasPair t u p (Some v)
  first t u g n single pairs e h i = elim (cases_Bool (p.weak == i)) [
    | inl b ↦
        let this : p.weak ≡ i = eqb-true p.weak i b in
        let none : default_moving single pairs i ≡ None = sym (h i) ∙ ap (get nat_cmp t) (sym this) ∙ g in
        n.0 i ∙ cond-true (is_eq (nat_cmp p.weak i)) (Some v) (get nat_cmp t i) (ap (λ k. is_eq (nat_cmp p.weak k)) (sym this) ∙ equal p.weak)
        ∙ sym (more single pairs p i
        ∙ ap (λ o. slice_get (filter_map (default_in single i) pairs ++ cons_option o []) 0) (cond-true (p.weak == i) (single p.substitute) None b ∙ e)
        ∙ first-new (filter_map (default_in single i) pairs) v none)
    | inr b ↦
        n.0 i ∙ cond-false (is_eq (nat_cmp p.weak i)) (Some v) (get nat_cmp t i) (unequal p.weak i b)
        ∙ h i ∙ sym (kept single pairs p i (cond-false (p.weak == i) (single p.substitute) None b))
  ]

-- All of a list.
pub whole : {A : Type 0} (xs : List A) (k : ℕ) → length xs ≤ k → take k xs ≡ xs
whole [] zero h = refl
whole [] (suc k) h = refl
whole (x ∷ xs) zero h = absurd (omega arith)
whole (x ∷ xs) (suc k) h = ap (λ ys. x ∷ ys) (whole xs k (omega arith))
