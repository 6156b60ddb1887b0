-- The last element that passes a test.
use Rattle.std.proofs.Common.{◌≡◌, ℕ, suc, ◌<◌, Bool, true, List, [], ◌∷◌, ◌++◌, length, get_or, take, drop, drop-cons, Option, Some, None, refl, sym, ap, ◌∙◌}
use Rattle.std.specs.List.{filter, last_or}
use Rattle.std.proofs.lemmas.List.{take-append-drop}
use Rattle.std.proofs.lemmas.List.Elements.{filter-append}
use Rattle.omf_frame.specs.Bytes.{last}

module _ {A : Type 0} where
  pub last_of_more : (o : Option A) (xs : List A) (x : A) → last_or o (xs ++ x ∷ []) ≡ Some x
  last_of_more o [] x = refl
  last_of_more o (y ∷ xs) x = last_of_more (Some y) xs x

  -- an element passes, and none after it does
  pub last_found : (p : A → Bool) (xs : List A) (i next : ℕ) (d : A) → next ≡ suc i → i < length xs → p (get_or xs i d) ≡ true → filter p (drop next xs) ≡ [] → last (filter p xs) ≡ Some (get_or xs i d)
  last_found p xs i next d is low passes none =
      let x = get_or xs i d in
      let cut : xs ≡ take i xs ++ x ∷ drop next xs = sym (take-append-drop i xs) ∙ ap (λ l. take i xs ++ l) (drop-cons xs i d low ∙ ap (λ n. x ∷ drop n xs) (sym is)) in
      let kept : filter p (x ∷ drop next xs) ≡ x ∷ [] = rw (passes, none) refl in
      ap (λ l. last (filter p l)) cut ∙ ap last (filter-append p (take i xs) (x ∷ drop next xs) ∙ ap (λ l. filter p (take i xs) ++ l) kept) ∙ last_of_more None (filter p (take i xs)) x
