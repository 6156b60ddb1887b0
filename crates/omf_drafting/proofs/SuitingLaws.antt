-- Whether one of a list has a property, one element after another.
use Rattle.std.proofs.Common.{◌≡◌, Bool, true, false, List, [], ◌∷◌, sym, ap, ◌∙◌}
use Rattle.std.specs.Prelude.{◌||◌}
use Rattle.std.specs.List.{list_any}

module _ {A : Type 0} (f : A → Bool) (xs : List A) where
  pub any_found : (x : A) (rest : List A) (all : Bool) → xs ≡ x ∷ rest → f x ≡ true → list_any f xs ≡ all → true ≡ all
  any_found x rest all e g h = sym (ap (list_any f) e ∙ ap (λ (b : Bool). b || list_any f rest) g) ∙ h

  pub any_later : (x : A) (rest : List A) (all : Bool) → xs ≡ x ∷ rest → f x ≡ false → list_any f xs ≡ all → list_any f rest ≡ all
  any_later x rest all e g h = sym (ap (list_any f) e ∙ ap (λ (b : Bool). b || list_any f rest) g) ∙ h

  pub any_none : (all : Bool) → xs ≡ [] → list_any f xs ≡ all → false ≡ all
  any_none all e h = sym (ap (list_any f) e) ∙ h
