-- Places of numbers, and the table that has them.
use Rattle.std.proofs.Common.{◌≡◌, ◌≢◌, ◌∙◌, ℕ, zero, suc, ◌+◌, ◌<◌, Bool, true, false, cond, eqb, List, [], ◌∷◌, ◌++◌, length, inl, inr, refl, sym, ap, arith, length-append, subst}
use Rattle.std.specs.Prelude.{not, ◌||◌, replicate, slice_index, slice_set}
use Rattle.std.proofs.lemmas.Bool.{cases_Bool, eqb-true, eqb-false, eq-eqb, ne_eqb}
use Rattle.std.proofs.lemmas.List.{get_or-replicate, get_or-set_other, get_or-set_same, length-replicate, length-set}
use Rattle.omf_frame.specs.Bytes.{is_one_of}
use Rattle.omf_explicit.specs.Explicit.{ArePlaces, one_more, place_in, with_number}

one_more_some : (k : ℕ) → 0 < k → one_more k ≡ k + 1
one_more_some k low = let other : eqb k 0 ≡ false = ne_eqb k 0 (λ z. absurd (omega (arith, z, low))) in rw other refl

one_more_none : (k : ℕ) → eqb (one_more k) 0 ≡ eqb k 0
one_more_none zero = refl
one_more_none (suc k) =
    let some : one_more (suc k) ≡ suc k + 1 = one_more_some (suc k) (omega arith) in
    ap (λ n. eqb n 0) some ∙ ne_eqb (suc k + 1) 0 (λ z. absurd (omega (arith, z))) ∙ sym (ne_eqb (suc k) 0 (λ z. absurd (omega (arith, z))))

-- another number at the end
pub place_other : (ns : List ℕ) (m n : ℕ) → m ≢ n → place_in (ns ++ m ∷ []) n ≡ place_in ns n
place_other [] m n h = let other = ne_eqb m n h in rw other refl
place_other (k ∷ ns) m n h = ap (λ p. cond (eqb k n) 1 (one_more p)) (place_other ns m n h)

-- a new number at the end
not_first : (b : Bool) (p : ℕ) → cond b 1 (one_more p) ≡ 0 → (b ≡ false) × (p ≡ 0)
not_first true p e = absurd (omega (arith, e))
not_first false p e =
    let none : eqb p 0 ≡ true = sym (one_more_none p) ∙ eq-eqb (one_more p) 0 e in
    (refl, eqb-true p 0 none)

pub place_new : (ns : List ℕ) (n : ℕ) → place_in ns n ≡ 0 → place_in (ns ++ n ∷ []) n ≡ length ns + 1
place_new [] n e = let same = eq-eqb n n refl in rw same refl
place_new (k ∷ ns) n e =
    let h = not_first (eqb k n) (place_in ns n) e in
    let last = place_new ns n h.1 in
    ap (λ b. cond b 1 (one_more (place_in (ns ++ n ∷ []) n))) h.0
    ∙ ap one_more last
    ∙ one_more_some (length ns + 1) (omega arith)
    ∙ omega arith

-- A number is there exactly if it has a place.
either : (b a : Bool) (p : ℕ) → a ≡ not (eqb p 0) → (b || a) ≡ not (eqb (cond b 1 (one_more p)) 0)
either true a p e = refl
either false a p e = e ∙ ap not (sym (one_more_none p))

pub has_place : (ns : List ℕ) (n : ℕ) → is_one_of ns n ≡ not (eqb (place_in ns n) 0)
has_place [] n = refl
has_place (k ∷ ns) n = either (eqb k n) (is_one_of ns n) (place_in ns n) (has_place ns n)

pub adds_none : (ns : List ℕ) (n : ℕ) → eqb (place_in ns n) 0 ≡ false → ns ≡ with_number ns n
adds_none ns n some = ap (λ b. cond b ns (ns ++ n ∷ [])) (sym (has_place ns n ∙ ap not some))

pub adds_one : (ns : List ℕ) (n : ℕ) → eqb (place_in ns n) 0 ≡ true → ns ++ n ∷ [] ≡ with_number ns n
adds_one ns n none = ap (λ b. cond b ns (ns ++ n ∷ [])) (sym (has_place ns n ∙ ap not none))

-- the table
no_places : ArePlaces [] (replicate 65536 0)
no_places = record { count = length-replicate {A = ℕ} 65536 0; each = λ n low. get_or-replicate {A = ℕ} 65536 n 0 0 low }

pub starts : (order places : List ℕ) → order ≡ [] → places ≡ replicate 65536 0 → ArePlaces order places
starts order places none zeros = subst (λ l. ArePlaces order l) (sym zeros) (subst (λ l. ArePlaces l (replicate 65536 0)) (sym none) no_places)

pub one_place : (ns places : List ℕ) (n : ℕ) → ArePlaces ns places → n < 65536 → eqb (place_in ns n) 0 ≡ true → ArePlaces (ns ++ n ∷ []) (slice_set places n (length (ns ++ n ∷ [])))
one_place ns places n are low none = record {
  count = length-set places n (length (ns ++ n ∷ [])) ∙ are.count;
  each = λ k small.
      let inside : n < length places = omega (arith, low, are.count) in
      elim (cases_Bool (eqb k n)) [
        | inl t ↦
            let same : k ≡ n = eqb-true k n t in
            ap (λ i. slice_index (slice_set places n (length (ns ++ n ∷ []))) i) same
            ∙ get_or-set_same places n (length (ns ++ n ∷ [])) 0 inside
            ∙ length-append ns (n ∷ [])
            ∙ sym (place_new ns n (eqb-true (place_in ns n) 0 none))
            ∙ ap (place_in (ns ++ n ∷ [])) (sym same)
        | inr f ↦
            let other = eqb-false k n f in
            get_or-set_other places n k (length (ns ++ n ∷ [])) 0 other ∙ are.each k small ∙ sym (place_other ns n k (λ e. other (sym e)))
      ];
}
