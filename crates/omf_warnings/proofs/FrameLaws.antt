-- Steps over lists of lists, and what is found, one kind after another.
use Rattle.std.proofs.Common.{◌≡◌, ℕ, zero, suc, ◌+◌, ◌<◌, ◌≤◌, List, [], ◌∷◌, ◌++◌, drop, get_or, length, map, ap, ap₂, sym, ◌∙◌, arith, Vec, Global}
use Rattle.std.specs.Prelude.{Option, option_to_list}
use Rattle.omf_placement.proofs.StepLaws.{none_left}

-- the next of several lists
pub next-list : {A : Type 0} (rs : List (Vec A Global)) (i : ℕ) (r : Vec A Global) → r ≡ get_or rs i r → i < length rs → map (λ v. v.items) (drop i rs) ≡ r.items ∷ map (λ v. v.items) (drop (i + 1) rs)
next-list [] i r e h = absurd (omega (arith, h))
next-list {A = A} (s ∷ rs) zero r e h = ap (λ (v : Vec A Global). v.items ∷ map (λ v. v.items) rs) (sym e)
next-list (s ∷ rs) (suc i) r e h =
    let same : suc (i + 1) ≡ suc i + 1 = omega arith in
    next-list rs i r e (omega (arith, h)) ∙ ap (λ n. r.items ∷ map (λ v. v.items) (drop n (s ∷ rs))) same

pub no-list : {A : Type 0} (rs : List (Vec A Global)) (i : ℕ) → length rs ≤ i → map (λ v. v.items) (drop i rs) ≡ []
no-list {A = A} rs i h = ap (map (λ (v : Vec A Global). v.items)) (none_left rs i h)

-- one kind after others
pub one-listed : {A : Type 0} {old new before : List A} {o p : Option A} → new ≡ old ++ option_to_list o → old ≡ before → o ≡ p → new ≡ before ++ option_to_list p
one-listed {A = A} h e g = h ∙ ap₂ (λ (xs : List A) (q : Option A). xs ++ option_to_list q) e g
