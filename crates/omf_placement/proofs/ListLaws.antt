-- Elements of lists by their places: the next one, the entry of an index from 1, one more at the end.
use Rattle.std.proofs.Common.{◌≡◌, ℕ, zero, suc, ◌+◌, ◌-◌, ◌≤◌, List, [], ◌∷◌, ◌++◌, length, drop, refl, sym, ap, ap₂, ◌∙◌, append_assoc, append-nil, arith}
use Rattle.std.proofs.Math.Seq.{drop-nil}
use Rattle.std.specs.Prelude.{map, Option, Some, None, slice_get, cond}
use Rattle.std.specs.List.{zip, enumerate_from}
use Rattle.std.proofs.lemmas.Bool.{le-leb}
use Rattle.std.proofs.lemmas.Option.{none-some, same_Some}
use Rattle.omf_check.specs.Tables.{entry}

-- The next of a list.
pub next-at : {A : Type 0} (xs : List A) (j : ℕ) (x : A) → slice_get xs j ≡ Some x → drop j xs ≡ x ∷ drop (j + 1) xs
next-at [] j x e = absurd (none-some x e)
next-at (y ∷ ys) zero x e = ap (λ z. z ∷ ys) (same_Some y x e)
next-at (y ∷ ys) (suc j) x e = let same : suc (j + 1) ≡ suc j + 1 = omega arith in next-at ys j x e ∙ ap (λ n. x ∷ drop n (y ∷ ys)) same

-- The entry of an index from 1, by its position.
pub entry-at : {A : Type 0} (xs : List A) (j : ℕ) → entry xs (j + 1) ≡ slice_get xs j
entry-at xs j = let back : j + 1 - 1 ≡ j = omega arith in ap₂ (λ b k. cond b (slice_get xs k) None) (le-leb 1 (j + 1) (omega arith)) back

-- The next pair of two lists.
pub next-pair : {A B : Type 0} (xs : List A) (ys : List B) (j : ℕ) (x : A) (y : B) → slice_get xs j ≡ Some x → slice_get ys j ≡ Some y → drop j (zip xs ys) ≡ (x, y) ∷ drop (j + 1) (zip xs ys)
next-pair [] ys j x y e g = absurd (none-some x e)
next-pair (a ∷ xs) [] j x y e g = absurd (none-some y g)
next-pair (a ∷ xs) (b ∷ ys) zero x y e g = ap₂ (λ u v. (u, v) ∷ zip xs ys) (same_Some a x e) (same_Some b y g)
next-pair (a ∷ xs) (b ∷ ys) (suc j) x y e g =
    let same : suc (j + 1) ≡ suc j + 1 = omega arith in
    next-pair xs ys j x y e g ∙ ap (λ n. (x, y) ∷ drop n (zip (a ∷ xs) (b ∷ ys))) same

pub no-pair : {A B : Type 0} (xs : List A) (ys : List B) (j : ℕ) → length xs ≤ j → drop j (zip xs ys) ≡ []
no-pair [] ys j h = drop-nil j
no-pair (x ∷ xs) [] j h = drop-nil j
no-pair (x ∷ xs) (y ∷ ys) zero h = absurd (omega arith)
no-pair (x ∷ xs) (y ∷ ys) (suc j) h = no-pair xs ys j (omega arith)

map-end : {A B : Type 0} (f : A → B) (xs : List A) (x : A) → map f (xs ++ x ∷ []) ≡ map f xs ++ f x ∷ []
map-end f [] x = refl
map-end f (y ∷ ys) x = ap (λ zs. f y ∷ zs) (map-end f ys x)

-- One more at the end.
pub more-mapped : {A B C : Type 0} (seen : A → C) (f : B → C) (old new : List A) (x : A) (left rest : List B) (y : B) (all : List C) → new ≡ old ++ x ∷ [] → left ≡ y ∷ rest → seen x ≡ f y
    → map seen old ++ map f left ≡ all → map seen new ++ map f rest ≡ all
more-mapped seen f old new x left rest y all e g s h =
    ap (λ zs. map seen zs ++ map f rest) e ∙ ap (λ zs. zs ++ map f rest) (map-end seen old x) ∙ append_assoc (map seen old) (seen x ∷ []) (map f rest)
    ∙ ap (λ z. map seen old ++ z ∷ map f rest) s ∙ ap (λ zs. map seen old ++ map f zs) (sym g) ∙ h

pub all-mapped : {A B C : Type 0} (seen : A → C) (f : B → C) (old : List A) (left : List B) (all : List C) → left ≡ [] → map seen old ++ map f left ≡ all → map seen old ≡ all
all-mapped seen f old left all e h = sym (append-nil (map seen old)) ∙ ap (λ zs. map seen old ++ map f zs) (sym e) ∙ h

-- Values with numbers from one on.
abbrev pub told_from : {E : Type 0} → ℕ → List E → List (ℕ × Option E)
told_from n es = map (λ l. (l.0, Some l.1)) (enumerate_from n es)

pub told-append : {E : Type 0} (n : ℕ) (xs ys : List E) → told_from n (xs ++ ys) ≡ told_from n xs ++ told_from (n + length xs) ys
told-append n [] ys = let none : n ≡ n + 0 = omega arith in ap (λ k. told_from k ys) none
told-append n (x ∷ xs) ys =
    let next : n + 1 + length xs ≡ n + length (x ∷ xs) = omega arith in
    ap (λ ls. (n, Some x) ∷ ls) (told-append (n + 1) xs ys ∙ ap (λ k. told_from (n + 1) xs ++ told_from k ys) next)
