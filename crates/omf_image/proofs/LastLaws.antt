-- The last of the values that a function gives for a list's elements.
use Rattle.std.proofs.Common.{◌≡◌, List, [], ◌∷◌, ◌++◌, Option, Some, None, refl, ◌∙◌, ap}
use Rattle.std.specs.Prelude.{filter_map}
use Rattle.std.specs.List.{last_or, cons_option}
use Rattle.std.specs.Option.{option_or}
use Rattle.std.proofs.lemmas.List.Elements.{filter_map-append}
use Rattle.omf_frame.specs.Bytes.{last}

last_more : {A : Type 0} (o : Option A) (xs : List A) (x : A) → last_or o (xs ++ x ∷ []) ≡ Some x
last_more o [] x = refl
last_more o (y ∷ xs) x = last_more (Some y) xs x

last_same : {A : Type 0} (o : Option A) (xs : List A) → last_or o (xs ++ []) ≡ last_or o xs
last_same o [] = refl
last_same o (x ∷ xs) = last_same (Some x) xs

last_option : {A : Type 0} (o : Option A) (ys : List A) → last (ys ++ cons_option o []) ≡ option_or o (last ys)
last_option None ys = last_same None ys
last_option (Some y) ys = last_more None ys y

-- One more element gives the last value, or leaves it unchanged.
pub last_filter_map : {X A : Type 0} (f : X → Option A) (xs : List X) (x : X) → last (filter_map f (xs ++ x ∷ [])) ≡ option_or (f x) (last (filter_map f xs))
last_filter_map f xs x = ap last (filter_map-append f xs (x ∷ [])) ∙ last_option (f x) (filter_map f xs)
