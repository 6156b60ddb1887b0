-- Runs of one class and name, and their order.
use Rattle.std.proofs.Common.{◌≡◌, ℕ, List, [], ◌∷◌, refl, sym, ap, ap₂, ◌∙◌, Bor, Bool, true, false, Vec, Global}
use Rattle.std.specs.Prelude.{map, Some, None, bytes_eq, cond}
use Rattle.std.specs.List.{cons_option}
use Rattle.omf_layout.specs.Several.Gathered.{distinct, value_of, of_name, names_in, gathered, named}
use Rattle.omf_layout.specs.Several.Portions.{with_names}
use Rattle.omf_layout.specs.declared.several.portion.Portion.{Portion}

-- Gathering commutes with a view of the values.
module _ {A B : Type 0} (f : A → B) where
  abbrev seen : List ℕ × A → List ℕ × B
  seen x = (x.0, f x.1)

  pub names-seen : (xs : List (List ℕ × A)) → names_in (map seen xs) ≡ names_in xs
  names-seen [] = refl
  names-seen (x ∷ xs) = ap (λ ns. x.0 ∷ ns) (names-seen xs)

  one-seen : (b : Bool) (a : A) (xs : List A) → cons_option (cond b (Some (f a)) None) (map f xs) ≡ map f (cons_option (cond b (Some a) None) xs)
  one-seen true a xs = refl
  one-seen false a xs = refl

  pub of-name-seen : (xs : List (List ℕ × A)) (n : List ℕ) → of_name (map seen xs) n ≡ map f (of_name xs n)
  of-name-seen [] n = refl
  of-name-seen (x ∷ xs) n = ap (cons_option (value_of n (seen x))) (of-name-seen xs n) ∙ one-seen (bytes_eq n x.0) x.1 (of_name xs n)

  each-seen : (xs : List (List ℕ × A)) (ns : List (List ℕ)) → map (of_name (map seen xs)) ns ≡ map (map f) (map (of_name xs) ns)
  each-seen xs [] = refl
  each-seen xs (n ∷ ns) = ap₂ (λ r rs. r ∷ rs) (of-name-seen xs n) (each-seen xs ns)

  pub gathered-seen : (xs : List (List ℕ × A)) → gathered (map seen xs) ≡ map (map f) (gathered xs)
  gathered-seen xs = ap (λ ns. map (of_name (map seen xs)) (distinct ns)) (names-seen xs) ∙ each-seen xs (distinct (names_in xs))

pub map-map : {A B C : Type 0} (f : B → C) (g : A → B) (xs : List A) → map f (map g xs) ≡ map (λ x. f (g x)) xs
map-map f g [] = refl
map-map f g (x ∷ xs) = ap (λ ys. f (g x) ∷ ys) (map-map f g xs)

pub classes-seen : (ps : List (Bor (List ℕ) × (Bor (List ℕ) × Portion))) (cs : List (Vec (Bor (List ℕ) × Portion) Global)) → map (λ c. c.items) cs ≡ gathered (map named ps) → map (λ c. map named c.items) cs ≡ gathered (map with_names ps)
classes-seen ps cs e =
    sym (map-map (map named) (λ c. c.items) cs) ∙ ap (map (map named)) e ∙ sym (gathered-seen named (map named ps)) ∙ ap gathered (map-map (seen named) named ps)
