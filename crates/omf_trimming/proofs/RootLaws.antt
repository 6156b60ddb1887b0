-- The segments that stay, one after another.
use Rattle.std.proofs.Common.{◌≡◌, ℕ, zero, suc, ◌+◌, ◌<◌, List, [], ◌∷◌, ◌++◌, length, refl, sym, ap, ◌∙◌, arith, append_assoc, inl, inr}
use Rattle.std.specs.Prelude.{flat_map, filter, map, slice_get, Option, None}
use Rattle.std.proofs.lemmas.Bool.{cases_Bool, cond-true, cond-false}
use Rattle.omf_check.specs.Tables.{entry}
use Rattle.omf_check.specs.declared.segment.SegInfo.{SegInfo}
use Rattle.omf_trimming.specs.Reaching.{Node, always_stays}
use Rattle.omf_trimming.specs.Inner.Reaching.{root_if}
use Rattle.omf_placement.proofs.NamedLaws.{entry-suc}
use Rattle.omf_trimming.specs.declared.optional.LeftOut.{LeftOut}

pub root-flat : (o : LeftOut) (ns : List (List ℕ)) (j : ℕ) (ss : List (ℕ × SegInfo)) → flat_map (root_if o ns j) ss ≡ map (λ s. (let n : Node = (j, s.0) in n)) (filter (λ s. always_stays o ns s.1) ss)
root-flat o ns j [] = refl
root-flat o ns j (s ∷ ss) = elim (cases_Bool (always_stays o ns s.1)) [
  | inl b ↦ ap (λ xs. xs ++ flat_map (root_if o ns j) ss) (cond-true (always_stays o ns s.1) ((j, s.0) ∷ []) [] b) ∙ ap (λ xs. (j, s.0) ∷ xs) (root-flat o ns j ss)
      ∙ sym (ap (λ xs. map (λ t. (let n : Node = (j, t.0) in n)) xs) (cond-true (always_stays o ns s.1) (s ∷ filter (λ t. always_stays o ns t.1) ss) (filter (λ t. always_stays o ns t.1) ss) b))
  | inr b ↦ ap (λ xs. xs ++ flat_map (root_if o ns j) ss) (cond-false (always_stays o ns s.1) ((j, s.0) ∷ []) [] b) ∙ root-flat o ns j ss
      ∙ sym (ap (λ xs. map (λ t. (let n : Node = (j, t.0) in n)) xs) (cond-false (always_stays o ns s.1) (s ∷ filter (λ t. always_stays o ns t.1) ss) (filter (λ t. always_stays o ns t.1) ss) b))
]

pub roots-start : (o : LeftOut) (ns : List (List ℕ)) (j : ℕ) (ss : List (ℕ × SegInfo)) (old new : List Node) → new ≡ old ++ (j, 0) ∷ []
    → new ++ flat_map (root_if o ns j) ss ≡ old ++ (j, 0) ∷ map (λ s. (let n : Node = (j, s.0) in n)) (filter (λ s. always_stays o ns s.1) ss)
roots-start o ns j ss old new e =
    ap (λ xs. xs ++ flat_map (root_if o ns j) ss) e ∙ append_assoc old ((j, 0) ∷ []) (flat_map (root_if o ns j) ss) ∙ ap (λ xs. old ++ (j, 0) ∷ xs) (root-flat o ns j ss)

slice-there : {A : Type 0} (xs : List A) (i : ℕ) → i < length xs → slice_get xs i ≡ None → ⊥
slice-there [] i l e = absurd (omega (arith, l))
slice-there (x ∷ xs) zero l e = cc
slice-there (x ∷ xs) (suc i) l e = slice-there xs i (omega (arith, l)) e

pub entry-there : {A : Type 0} (xs : List A) (i : ℕ) (o : Option A) → i < length xs → o ≡ entry xs (i + 1) → o ≡ None → ⊥
entry-there xs i o low e f =
    let next : suc i ≡ i + 1 = omega arith in
    slice-there xs i low (sym (entry-suc xs i) ∙ ap (entry xs) next ∙ sym e ∙ f)
