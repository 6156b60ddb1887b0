-- A loop appends what each element gives.
use Rattle.std.proofs.Common.{◌≡◌, ◌∙◌, ℕ, suc, ◌+◌, ◌<◌, List, ◌++◌, length, drop, drop-cons, get_or, add-one, append_assoc, sym, ap}
use Rattle.std.specs.Prelude.{flat_map, map}

pub gives_more : {A B : Type 0} (f : A → List B) (old new all : List B) (xs : List A) (i : ℕ) (d x : A) → i < length xs → x ≡ get_or xs i d → new ≡ old ++ f x
    → old ++ flat_map f (drop i xs) ≡ all → new ++ flat_map f (drop (i + 1) xs) ≡ all
gives_more f old new all xs i d x low here more same =
    ap (λ n. new ++ flat_map f (drop n xs)) (add-one i)
    ∙ ap (λ l. l ++ flat_map f (drop (suc i) xs)) (more ∙ ap (λ y. old ++ f y) here)
    ∙ append_assoc old (f (get_or xs i d)) (flat_map f (drop (suc i) xs))
    ∙ ap (λ l. old ++ flat_map f l) (sym (drop-cons xs i d low))
    ∙ same

pub maps_more : {A B C : Type 0} (f : A → B) (g : B → List C) (old new all : List C) (xs : List A) (i : ℕ) (d x : A) → i < length xs → x ≡ get_or xs i d → new ≡ old ++ g (f x)
    → old ++ flat_map g (map f (drop i xs)) ≡ all → new ++ flat_map g (map f (drop (i + 1) xs)) ≡ all
maps_more f g old new all xs i d x low here more same =
    ap (λ n. new ++ flat_map g (map f (drop n xs))) (add-one i)
    ∙ ap (λ l. l ++ flat_map g (map f (drop (suc i) xs))) (more ∙ ap (λ y. old ++ g (f y)) here)
    ∙ append_assoc old (g (f (get_or xs i d))) (flat_map g (map f (drop (suc i) xs)))
    ∙ ap (λ l. old ++ flat_map g (map f l)) (sym (drop-cons xs i d low))
    ∙ same
