-- The segments of modules, one after another.
use Rattle.std.proofs.Common.{◌≡◌, List, [], ◌∷◌, ◌++◌, refl, sym, ◌∙◌, ap, append_assoc, append-nil}
use Rattle.std.specs.Prelude.{Option, Some, None, filter_map, option_to_list}
use Rattle.std.specs.List.{cons_option}

-- One more of a list that is filtered by a function.
pub one-more : {A B : Type 0} (f : A → Option B) (done : List B) (x : A) (left rest : List A) (whole : List B) → left ≡ x ∷ rest → done ++ filter_map f left ≡ whole
    → (done ++ option_to_list (f x)) ++ filter_map f rest ≡ whole
one-more {B = B} f done x left rest whole e h = by (f x) refl
  where
    by : (o : Option B) → f x ≡ o → (done ++ option_to_list o) ++ filter_map f rest ≡ whole
    by None g = ap (λ l. l ++ filter_map f rest) (append-nil done) ∙ sym (ap (λ l. done ++ filter_map f l) e ∙ ap (λ o. done ++ cons_option o (filter_map f rest)) g) ∙ h
    by (Some y) g = append_assoc done (y ∷ []) (filter_map f rest) ∙ sym (ap (λ l. done ++ filter_map f l) e ∙ ap (λ o. done ++ cons_option o (filter_map f rest)) g) ∙ h
