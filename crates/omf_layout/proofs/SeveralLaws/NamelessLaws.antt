-- Segments with names first, seen with their names.
use Rattle.std.proofs.Common.{◌≡◌, List, [], ◌∷◌, ◌++◌, Bool, Bor, ℕ, refl, sym, ap, ap₂, ◌∙◌, inl, inr}
use Rattle.std.specs.Prelude.{map, not}
use Rattle.std.specs.List.{filter}
use Rattle.std.proofs.lemmas.Bool.{cond-true, cond-false, cases_Bool}
use Rattle.std.proofs.lemmas.List.{map-append}
use Rattle.omf_layout.specs.declared.several.portion.Portion.{Portion}
use Rattle.omf_layout.specs.Several.Order.{is_named, nameless_last}
use Rattle.omf_layout.specs.Several.Portions.{Classed, with_names}

-- A test that a view does not change.
filter-seen : {A B : Type 0} (f : A → B) (t : A → Bool) (u : B → Bool) → ((x : A) → u (f x) ≡ t x) → (xs : List A) → map f (filter t xs) ≡ filter u (map f xs)
filter-seen f t u h [] = refl
filter-seen f t u h (x ∷ xs) = elim (cases_Bool (t x)) [
  | inl y ↦
      ap (map f) (cond-true (t x) (x ∷ filter t xs) (filter t xs) y) ∙ ap (λ ys. f x ∷ ys) (filter-seen f t u h xs)
      ∙ sym (cond-true (u (f x)) (f x ∷ filter u (map f xs)) (filter u (map f xs)) (h x ∙ y))
  | inr n ↦
      ap (map f) (cond-false (t x) (x ∷ filter t xs) (filter t xs) n) ∙ filter-seen f t u h xs
      ∙ sym (cond-false (u (f x)) (f x ∷ filter u (map f xs)) (filter u (map f xs)) (h x ∙ n))
]

pub names-last-seen : (ps : List (Bor (List ℕ) × (Bor (List ℕ) × Portion))) → map with_names (nameless_last ps) ≡ nameless_last (map with_names ps)
names-last-seen ps =
    let one : Bor (List ℕ) × (Bor (List ℕ) × Portion) → Bool = λ x. is_named x.1.1 in
    let other : Classed Portion → Bool = λ x. is_named x.1.1 in
    map-append with_names (filter one ps) (filter (λ x. not (one x)) ps)
    ∙ ap₂ (λ us vs. us ++ vs) (filter-seen with_names one other (λ x. refl) ps) (filter-seen with_names (λ x. not (one x)) (λ x. not (other x)) (λ x. refl) ps)
