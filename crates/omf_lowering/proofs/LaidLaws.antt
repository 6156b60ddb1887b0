-- The largest end of the data in a segment.
use Rattle.std.proofs.Common.{◌≡◌, ◌∙◌, ℕ, ◌-◌, ◌≤◌, List, [], ◌∷◌, ◌++◌, inl, inr, refl, sym, ap, arith}
use Rattle.std.specs.Prelude.{fold, slice_index_or, ◌==◌}
use Rattle.std.proofs.lemmas.Bool.{cases_Bool}
use Rattle.std.proofs.lemmas.List.Sums.{fold-append}
use Rattle.omf_lowering.specs.Comdats.{nearer, past}
use Rattle.omf_lowering.specs.Inner.Laid.{AreEnds, further}
use Rattle.omf_lowering.specs.declared.values.Piece.{Piece}

pub ends_more : (old new : List ℕ) (ps : List Piece) (p : Piece) → AreEnds old ps → ((s : ℕ) → slice_index_or new s 0 ≡ further s (slice_index_or old s 0) p) → AreEnds new (ps ++ p ∷ [])
ends_more old new ps p h noted = record { each = λ s. noted s ∙ ap (λ n. further s n p) (h.each s) ∙ sym (fold-append (further s) 0 ps (p ∷ [])) }

one_nearer : (s end largest : ℕ) (p : Piece) → end ≤ 4294967295 → nearer s end (end - largest) p ≡ end - further s largest p
one_nearer s end largest p low = elim (cases_Bool (p.segment == s)) [
  | inl y ↦ rw (y) (omega (arith, low))
  | inr f ↦ rw (f) refl
]

past_by : (s end largest : ℕ) (ps : List Piece) → end ≤ 4294967295 → fold (nearer s end) (end - largest) ps ≡ end - fold (further s) largest ps
past_by s end largest [] low = refl
past_by s end largest (p ∷ ps) low = ap (λ n. fold (nearer s end) n ps) (one_nearer s end largest p low) ∙ past_by s end (further s largest p) ps low

pub past_is : (s end : ℕ) (ps : List Piece) (ends : List ℕ) → end ≤ 4294967295 → AreEnds ends ps → end - slice_index_or ends s 0 ≡ past s end ps
past_is s end ps ends low h =
    let none : end - 0 ≡ end = omega arith in
    ap (λ n. end - n) (h.each s) ∙ sym (past_by s end 0 ps low) ∙ ap (λ n. fold (nearer s end) n ps) none
