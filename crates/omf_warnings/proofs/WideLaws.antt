-- The first that a function gives, one element after another.
use Rattle.std.proofs.Common.{◌≡◌, List, [], ◌∷◌, sym, ap, ◌∙◌}
use Rattle.std.specs.Prelude.{Option, Some, None}
use Rattle.omf_warnings.specs.Wide.{or_else, first_some}

module _ {A B : Type 0} (f : A → Option B) (xs : List A) where
  pub first_found : (x : A) (rest : List A) (b : B) (all : Option B) → xs ≡ x ∷ rest → f x ≡ Some b → first_some f xs ≡ all → Some b ≡ all
  first_found x rest b all e g h = sym (ap (first_some f) e ∙ ap (λ (o : Option B). or_else o (first_some f rest)) g) ∙ h

  pub first_later : (x : A) (rest : List A) (all : Option B) → xs ≡ x ∷ rest → f x ≡ None → first_some f xs ≡ all → first_some f rest ≡ all
  first_later x rest all e g h = sym (ap (first_some f) e ∙ ap (λ (o : Option B). or_else o (first_some f rest)) g) ∙ h

  pub first_none : (all : Option B) → xs ≡ [] → first_some f xs ≡ all → None ≡ all
  first_none all e h = sym (ap (first_some f) e) ∙ h
