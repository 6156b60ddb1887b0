-- One more name, and one more COMDAT.
use Rattle.std.proofs.Common.{◌≡◌, ◌∙◌, ℕ, suc, ◌+◌, ◌%◌, Bool, true, false, cond, eqb, List, [], ◌∷◌, ◌++◌, length, inl, inr, refl, sym, ap, append-nil, arith}
use Rattle.std.specs.Prelude.{◌&&◌, nat_lt, bytes_eq, filter, Some, None}
use Rattle.std.specs.Borrow.{Bor}
use Rattle.std.specs.BTreeMap.{BTreeMap}
use Rattle.std.specs.List.{last_or}
use Rattle.std.proofs.lemmas.Bool.{cases_Bool, eq-eqb, ne_eqb}
use Rattle.std.proofs.lemmas.List.Elements.{filter-append}
use Rattle.omf_names.proofs.NameTables.{IsUpdated}
use Rattle.omf_lowering.specs.Comdats.{class_of, index_from, index_of, instance_of}
use Rattle.omf_lowering.specs.Inner.Named.{AreNamed, first_after, or_other}
use Rattle.omf_lowering.specs.Values.{Instance}
use Rattle.omf_lowering.proofs.LastLaws.{last_of_more}

-- ---- names

not_none : (n : ℕ) → eqb (n + 1) 0 ≡ false
not_none n = ne_eqb (n + 1) 0 (λ z. absurd (omega (arith, z)))

taken : (b : Bool) (n x : ℕ) → cond b (n + 1) x ≡ cond (eqb (cond b (n + 1) 0) 0) x (cond b (n + 1) 0)
taken true n x = ap (λ t. cond t x (n + 1)) (sym (not_none n))
taken false n x = refl

other_from : (other : ℕ) (text : List ℕ) (before : ℕ) (ns : List (List ℕ)) → index_from other text before ns ≡ or_other (index_from 0 text before ns) other
other_from other text before [] = refl
other_from other text before (n ∷ ns) = elim (cases_Bool (nat_lt before 32767 && bytes_eq n text)) [
  | inl y ↦ rw (y, not_none before) refl
  | inr f ↦ rw f (other_from other text (before + 1) ns)
]

pub other_of : (other : ℕ) (text : List ℕ) (ns : List (List ℕ)) → or_other (index_of 0 text ns) other ≡ index_of other text ns
other_of other text ns = sym (other_from other text 0 ns)

more_from : (text : List ℕ) (before : ℕ) (ns : List (List ℕ)) (n : List ℕ) → index_from 0 text before (ns ++ n ∷ []) ≡ first_after (index_from 0 text before ns) (before + length ns) n text
more_from text before [] n = ap (λ k. cond (nat_lt k 32767 && bytes_eq n text) (k + 1) 0) (omega arith)
more_from text before (m ∷ ns) n = elim (cases_Bool (nat_lt before 32767 && bytes_eq m text)) [
  | inl y ↦ rw (y, not_none before) refl
  | inr f ↦
      let same : before + 1 + length ns ≡ before + suc (length ns) = omega arith in
      rw f (more_from text (before + 1) ns n ∙ ap (λ k. first_after (index_from 0 text (before + 1) ns) k n text) same)
]

pub first_more : (text : List ℕ) (ns : List (List ℕ)) (n : List ℕ) → first_after (index_of 0 text ns) (length ns) n text ≡ index_of 0 text (ns ++ n ∷ [])
first_more text ns n = sym (more_from text 0 ns n ∙ ap (λ k. first_after (index_of 0 text ns) k n text) (omega arith))

pub pushed_first : (text given : List ℕ) (ns new : List (List ℕ)) (n : List ℕ) (first next count : ℕ) → first ≡ index_of 0 text ns → given ≡ text → count ≡ length ns → new ≡ ns ++ n ∷ []
    → next ≡ first_after first count n given → next ≡ index_of 0 text new
pushed_first text given ns new n first next count is same len grown step =
    step ∙ ap (λ x. first_after x count n given) is ∙ ap (λ t. first_after (index_of 0 text ns) count n t) same ∙ ap (λ k. first_after (index_of 0 text ns) k n text) len
    ∙ first_more text ns n ∙ ap (index_of 0 text) (sym grown)

pub class_odd : (a : ℕ) → a % 2 ≡ 1 → class_of 1 ≡ class_of a
class_odd a h = rw (eq-eqb (a % 2) 1 h) refl

pub class_even : (a : ℕ) → (a % 2 ≡ 1 → ⊥) → class_of 0 ≡ class_of a
class_even a h = rw (ne_eqb (a % 2) 1 h) refl

-- ---- COMDATs

of_more : (is : List Instance) (i : Instance) (name : List ℕ) → instance_of (is ++ i ∷ []) name ≡ cond (bytes_eq i.name name) (Some i) (instance_of is name)
of_more is i name =
    let test : Instance → Bool = λ j. bytes_eq j.name name in
    let parts = filter-append test is (i ∷ []) in
    elim (cases_Bool (bytes_eq i.name name)) [
      | inl y ↦ rw (parts, y) (last_of_more None (filter test is) i)
      | inr f ↦ rw (parts, f) (ap (λ l. last_or None l) (append-nil (filter test is)))
    ]

pub named_more : (t u : BTreeMap (Bor (List ℕ)) Instance) (is : List Instance) (i : Instance) → AreNamed t is → IsUpdated i.name t u (Some i) → AreNamed u (is ++ i ∷ [])
named_more t u is i h up = record { each = λ name. up name ∙ ap (cond (bytes_eq i.name name) (Some i)) (h.each name) ∙ sym (of_more is i name) }
