-- The last of the values that a function gives for a list's elements, from one on.
use Rattle.std.proofs.Common.{◌≡◌, List, [], ◌∷◌, ◌++◌, Option, Some, None, refl, ◌∙◌}
use Rattle.std.specs.Prelude.{filter_map}
use Rattle.std.specs.List.{last_or, cons_option}
use Rattle.std.specs.Option.{option_or}

-- what is last after some elements, if this is the last before them
abbrev pub last_from : {X A : Type 0} → (X → Option A) → Option A → List X → Option A
last_from f o xs = last_or o (filter_map f xs)

step : {A : Type 0} (o p : Option A) (ys : List A) → last_or o (cons_option p ys) ≡ last_or (option_or p o) ys
step o None ys = refl
step o (Some x) ys = refl

pub last-cons : {X A : Type 0} (f : X → Option A) (o : Option A) (x : X) (xs : List X) → last_from f o (x ∷ xs) ≡ last_from f (option_or (f x) o) xs
last-cons f o x xs = step o (f x) (filter_map f xs)

pub last-append : {X A : Type 0} (f : X → Option A) (o : Option A) (xs ys : List X) → last_from f o (xs ++ ys) ≡ last_from f (last_from f o xs) ys
last-append f o [] ys = refl
last-append f o (x ∷ xs) ys =
    last-cons f o x (xs ++ ys) ∙ last-append f (option_or (f x) o) xs ys ∙ again (last-cons f o x xs)
  where
    again : last_from f o (x ∷ xs) ≡ last_from f (option_or (f x) o) xs → last_from f (last_from f (option_or (f x) o) xs) ys ≡ last_from f (last_from f o (x ∷ xs)) ys
    again e = cc
