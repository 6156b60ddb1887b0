-- The verdicts on modules, one after another.
use Rattle.std.proofs.Common.{◌≡◌, ℕ, zero, suc, ◌+◌, ◌<◌, ◌≤◌, List, [], ◌∷◌, ◌++◌, take, length, subst, arith}
use Rattle.std.specs.Prelude.{get_or}
use Rattle.std.proofs.lemmas.List.{take_all}
use Rattle.std.specs.List.{AllZip}

pub zip-more : {A B : Type 0} (R : A → B → Type 0) (xs : List A) (ys : List B) (i : ℕ) (x : A) (y : B) → x ≡ get_or xs i x → i < length xs → AllZip R (take i xs) ys → R x y
    → AllZip R (take (i + 1) xs) (ys ++ y ∷ [])
zip-more R [] ys i x y e l h r = absurd (omega (arith, l))
zip-more R (a ∷ xs) [] zero x y e l h r = (subst (λ z. R z y) e r, tt)
zip-more R (a ∷ xs) (b ∷ ys) zero x y e l h r = absurd h
zip-more R (a ∷ xs) [] (suc i) x y e l h r = absurd h
zip-more R (a ∷ xs) (b ∷ ys) (suc i) x y e l h r =
    let same : suc (i + 1) ≡ suc i + 1 = omega arith in
    subst (λ (n : ℕ). AllZip R (take n (a ∷ xs)) (b ∷ (ys ++ y ∷ []))) same (h.0, zip-more R xs ys i x y e (omega (arith, l)) h.1 r)

pub zip-end : {A B : Type 0} (R : A → B → Type 0) (xs : List A) (ys : List B) (i : ℕ) → length xs ≤ i → AllZip R (take i xs) ys → AllZip R xs ys
zip-end {A = A} R xs ys i l h = subst (λ (t : List A). AllZip R t ys) (take_all i xs l) h
