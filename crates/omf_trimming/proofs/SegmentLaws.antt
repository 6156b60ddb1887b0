-- The segments of a module, one after another.
use Rattle.std.proofs.Common.{◌≡◌, ℕ, ◌+◌, ◌≤◌, List, ◌∷◌, ◌++◌, length, drop, sym, ap, ◌∙◌, append_assoc, append-nil}
use Rattle.std.specs.Prelude.{flat_map}
use Rattle.std.specs.List.{enumerate_from}
use Rattle.std.proofs.lemmas.List.{drop_all}

module _ {A B : Type 0} (f : ℕ × A → List B) (xs : List A) (i : ℕ) (now all : List B) where
  pub one_more : (x : A) (new : List B) → drop i xs ≡ x ∷ drop (i + 1) xs → new ≡ now ++ f (i + 1, x) → now ++ flat_map f (enumerate_from (i + 1) (drop i xs)) ≡ all
      → new ++ flat_map f (enumerate_from (i + 1 + 1) (drop (i + 1) xs)) ≡ all
  one_more x new next e before =
      ap (λ t. t ++ flat_map f (enumerate_from (i + 1 + 1) (drop (i + 1) xs))) e
      ∙ append_assoc now (f (i + 1, x)) (flat_map f (enumerate_from (i + 1 + 1) (drop (i + 1) xs)))
      ∙ ap (λ l. now ++ flat_map f (enumerate_from (i + 1) l)) (sym next) ∙ before

  pub all_taken : length xs ≤ i → now ++ flat_map f (enumerate_from (i + 1) (drop i xs)) ≡ all → now ≡ all
  all_taken le h = sym (append-nil now) ∙ ap (λ l. now ++ flat_map f (enumerate_from (i + 1) l)) (sym (drop_all i xs le)) ∙ h
