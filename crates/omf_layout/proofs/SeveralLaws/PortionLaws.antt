-- The segments of modules, one more at a time.
use Rattle.std.proofs.Common.{◌≡◌, ℕ, zero, suc, ◌+◌, ◌<◌, ◌≤◌, List, [], ◌∷◌, length, drop, get_or, sym, ap, ap₂, ◌∙◌, arith}
use Rattle.std.proofs.Math.Seq.{drop-nil}
use Rattle.std.specs.Prelude.{Some, slice_get}
use Rattle.std.specs.List.{zip, enumerate_from}
use Rattle.std.proofs.lemmas.Option.{none-some, same_Some}
use Rattle.omf_check.specs.Module.{Module, records_in, typed_modules}
use Rattle.omf_check.specs.WellFormed.{recs}

-- The next pair of two lists, with its number.
pub next-numbered : {A B : Type 0} (k : ℕ) (xs : List A) (ys : List B) (j : ℕ) (x : A) (y : B) → slice_get xs j ≡ Some x → slice_get ys j ≡ Some y
    → drop j (enumerate_from k (zip xs ys)) ≡ (k + j, (x, y)) ∷ drop (j + 1) (enumerate_from k (zip xs ys))
next-numbered k [] ys j x y e g = absurd (none-some x e)
next-numbered k (a ∷ xs) [] j x y e g = absurd (none-some y g)
next-numbered k (a ∷ xs) (b ∷ ys) zero x y e g =
    let same : k ≡ k + 0 = omega arith in
    ap₂ (λ u v. (k, (u, v)) ∷ enumerate_from (k + 1) (zip xs ys)) (same_Some a x e) (same_Some b y g) ∙ ap (λ n. (n, (x, y)) ∷ enumerate_from (k + 1) (zip xs ys)) same
next-numbered k (a ∷ xs) (b ∷ ys) (suc j) x y e g =
    let number : k + 1 + j ≡ k + suc j = omega arith in
    let same : suc (j + 1) ≡ suc j + 1 = omega arith in
    next-numbered (k + 1) xs ys j x y e g ∙ ap (λ n. (n, (x, y)) ∷ drop (j + 1) (enumerate_from (k + 1) (zip xs ys))) number
    ∙ ap (λ n. (k + suc j, (x, y)) ∷ drop n (enumerate_from k (zip (a ∷ xs) (b ∷ ys)))) same

pub none-numbered : {A B : Type 0} (k : ℕ) (xs : List A) (ys : List B) (j : ℕ) → length xs ≤ j → drop j (enumerate_from k (zip xs ys)) ≡ []
none-numbered k [] ys j h = drop-nil j
none-numbered k (x ∷ xs) [] j h = drop-nil j
none-numbered k (x ∷ xs) (y ∷ ys) zero h = absurd (omega arith)
none-numbered k (x ∷ xs) (y ∷ ys) (suc j) h = none-numbered (k + 1) xs ys j (omega arith)

-- The next module.
pub next-module : (k : ℕ) (ms : List Module) (j : ℕ) (m : Module) → m ≡ get_or ms j m → j < length ms
    → enumerate_from k (typed_modules (drop j ms)) ≡ (k, recs (records_in m.bytes)) ∷ enumerate_from (k + 1) (typed_modules (drop (j + 1) ms))
next-module k [] j m e h = absurd (omega (arith, h))
next-module k (x ∷ ms) zero m e h = ap (λ y. (k, recs (records_in y.bytes)) ∷ enumerate_from (k + 1) (typed_modules ms)) (sym e)
next-module k (x ∷ ms) (suc j) m e h =
    let same : suc (j + 1) ≡ suc j + 1 = omega arith in
    next-module k ms j m e (omega (arith, h)) ∙ ap (λ n. (k, recs (records_in m.bytes)) ∷ enumerate_from (k + 1) (typed_modules (drop n (x ∷ ms)))) same

pub no-module : (k : ℕ) (ms : List Module) (j : ℕ) → length ms ≤ j → enumerate_from k (typed_modules (drop j ms)) ≡ []
no-module k [] j h = ap (λ xs. enumerate_from k (typed_modules xs)) (drop-nil j)
no-module k (x ∷ ms) zero h = absurd (omega (arith, h))
no-module k (x ∷ ms) (suc j) h = no-module k ms j (omega (arith, h))
