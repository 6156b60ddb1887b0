-- Marks of the segments of a program.
use Rattle.std.proofs.Common.{◌≡◌, ℕ, zero, suc, ◌+◌, ◌<◌, ◌⊎◌, Bool, true, false, List, [], ◌∷◌, length, set, refl, ap, ap₂, ◌∙◌, arith, inl, inr}
use Rattle.std.specs.Prelude.{map, replicate, slice_get, Option, Some, None}
use Rattle.std.proofs.lemmas.List.{length-replicate, length-set}
use Rattle.omf_trimming.specs.Reaching.{Node}
use Rattle.omf_trimming.specs.Inner.Reaching.{HasMark, Marks, is_marked, is_open, is_open_in, is_set, left_in, left_open, marked_in, open_of, set_of, size_of, with_bit, with_mark, with_marks}

-- The marks of one module.
bit-later : (b : Bool) (bs : List Bool) (i : ℕ) (o : Option Bool) → with_bit (b ∷ bs) (suc i) o ≡ b ∷ with_bit bs i o
bit-later b bs i None = refl
bit-later b bs i (Some x) = refl

set-is : (bs : List Bool) (i : ℕ) → marked_in bs i ≡ set bs i true
set-is [] i = refl
set-is (b ∷ bs) zero = refl
set-is (b ∷ bs) (suc i) = bit-later b bs i (slice_get bs i) ∙ ap (λ xs. b ∷ xs) (set-is bs i)

set-cases : (bs : List Bool) (n k : ℕ) → is_set (slice_get (set bs n true) k) ≡ true → (n ≡ k) ⊎ (is_set (slice_get bs k) ≡ true)
set-cases [] n k h = inr h
set-cases (b ∷ bs) zero zero h = inl refl
set-cases (b ∷ bs) zero (suc k) h = inr h
set-cases (b ∷ bs) (suc n) zero h = inr h
set-cases (b ∷ bs) (suc n) (suc k) h = elim (set-cases bs n k h) [
  | inl e ↦ inl (ap (λ (j : ℕ). suc j) e)
  | inr e ↦ inr e
]

set-kept : (bs : List Bool) (n k : ℕ) → is_set (slice_get bs k) ≡ true → is_set (slice_get (set bs n true) k) ≡ true
set-kept [] n k h = h
set-kept (b ∷ bs) zero zero h = refl
set-kept (b ∷ bs) zero (suc k) h = h
set-kept (b ∷ bs) (suc n) zero h = h
set-kept (b ∷ bs) (suc n) (suc k) h = set-kept bs n k h

set-here : (bs : List Bool) (n : ℕ) → n < length bs → is_set (slice_get (set bs n true) n) ≡ true
set-here [] n h = absurd (omega (arith, h))
set-here (b ∷ bs) zero h = refl
set-here (b ∷ bs) (suc n) h = set-here bs n (omega (arith, h))

set-shut : (bs : List Bool) (n : ℕ) → is_open_in bs n ≡ false → set bs n true ≡ bs
set-shut [] n h = refl
set-shut (true ∷ bs) zero h = refl
set-shut (false ∷ bs) zero h = absurd cc
set-shut (b ∷ bs) (suc n) h = ap (λ xs. b ∷ xs) (set-shut bs n h)

fewer : (bs : List Bool) (n : ℕ) → is_open_in bs n ≡ true → left_in (set bs n true) + 1 ≡ left_in bs
fewer [] n e = absurd cc
fewer (true ∷ bs) zero e = absurd cc
fewer (false ∷ bs) zero e = omega arith
fewer (true ∷ bs) (suc n) e = fewer bs n e
fewer (false ∷ bs) (suc n) e = let f = fewer bs n e in omega (arith, f)

open-low : (bs : List Bool) (n : ℕ) → is_open_in bs n ≡ true → n < length bs
open-low [] n e = absurd cc
open-low (b ∷ bs) zero e = omega arith
open-low (b ∷ bs) (suc n) e = let l = open-low bs n e in omega (arith, l)

set-low : (bs : List Bool) (n : ℕ) → is_set (slice_get bs n) ≡ true → n < length bs
set-low [] n e = absurd cc
set-low (b ∷ bs) zero e = omega arith
set-low (b ∷ bs) (suc n) e = let l = set-low bs n e in omega (arith, l)

shut-set : (bs : List Bool) (n : ℕ) → n < length bs → is_open_in bs n ≡ false → is_set (slice_get bs n) ≡ true
shut-set [] n h e = absurd (omega (arith, h))
shut-set (true ∷ bs) zero h e = refl
shut-set (false ∷ bs) zero h e = absurd cc
shut-set (b ∷ bs) (suc n) h e = shut-set bs n (omega (arith, h)) e

-- Those of all modules, as a list of lists.
abbrev pub marked : Marks → ℕ → ℕ → Marks
marked [] j i = []
marked (bs ∷ ms) zero i = set bs i true ∷ ms
marked (bs ∷ ms) (suc j) i = bs ∷ marked ms j i

marks-later : (bs : List Bool) (ms : Marks) (j i : ℕ) (o : Option (List Bool)) → with_marks (bs ∷ ms) (suc j, i) o ≡ bs ∷ with_marks ms (j, i) o
marks-later bs ms j i None = refl
marks-later bs ms j i (Some x) = refl

mark-parts : (ms : Marks) (j i : ℕ) → with_mark ms (j, i) ≡ marked ms j i
mark-parts [] j i = refl
mark-parts (bs ∷ ms) zero i = ap (λ xs. xs ∷ ms) (set-is bs i)
mark-parts (bs ∷ ms) (suc j) i = marks-later bs ms j i (slice_get ms j) ∙ ap (λ xs. bs ∷ xs) (mark-parts ms j i)

pub mark-is : (ms : Marks) (n : Node) → with_mark ms n ≡ marked ms n.0 n.1
mark-is ms (j, i) = mark-parts ms j i

cases-parts : (ms : Marks) (j i k l : ℕ) → set_of l (slice_get (marked ms j i) k) ≡ true → ((j ≡ k) × (i ≡ l)) ⊎ (set_of l (slice_get ms k) ≡ true)
cases-parts [] j i k l h = inr h
cases-parts (bs ∷ ms) zero i zero l h = elim (set-cases bs i l h) [
  | inl e ↦ inl (refl, e)
  | inr e ↦ inr e
]
cases-parts (bs ∷ ms) zero i (suc k) l h = inr h
cases-parts (bs ∷ ms) (suc j) i zero l h = inr h
cases-parts (bs ∷ ms) (suc j) i (suc k) l h = elim (cases-parts ms j i k l h) [
  | inl e ↦ inl (ap (λ (x : ℕ). suc x) e.0, e.1)
  | inr e ↦ inr e
]

pub same-node : (j i k l : ℕ) → j ≡ k → i ≡ l → (let n : Node = (j, i) in n) ≡ (k, l)
same-node j i k l e f = ap₂ (λ x y. let n : Node = (x, y) in n) e f

pub mark-cases : (ms : Marks) (n k : Node) → is_marked (marked ms n.0 n.1) k ≡ true → (n ≡ k) ⊎ (is_marked ms k ≡ true)
mark-cases ms (j, i) (k, l) h = elim (cases-parts ms j i k l h) [
  | inl e ↦ inl (same-node j i k l e.0 e.1)
  | inr e ↦ inr e
]

kept-parts : (ms : Marks) (j i k l : ℕ) → set_of l (slice_get ms k) ≡ true → set_of l (slice_get (marked ms j i) k) ≡ true
kept-parts [] j i k l h = h
kept-parts (bs ∷ ms) zero i zero l h = set-kept bs i l h
kept-parts (bs ∷ ms) zero i (suc k) l h = h
kept-parts (bs ∷ ms) (suc j) i zero l h = h
kept-parts (bs ∷ ms) (suc j) i (suc k) l h = kept-parts ms j i k l h

pub mark-kept : (ms : Marks) (n k : Node) → is_marked ms k ≡ true → is_marked (marked ms n.0 n.1) k ≡ true
mark-kept ms n k h = kept-parts ms n.0 n.1 k.0 k.1 h

here-parts : (ms : Marks) (j i : ℕ) → i < size_of (slice_get ms j) → set_of i (slice_get (marked ms j i) j) ≡ true
here-parts [] j i h = absurd (omega (arith, h))
here-parts (bs ∷ ms) zero i h = set-here bs i h
here-parts (bs ∷ ms) (suc j) i h = here-parts ms j i h

pub mark-here : (ms : Marks) (n : Node) → HasMark ms n → is_marked (marked ms n.0 n.1) n ≡ true
mark-here ms n h = here-parts ms n.0 n.1 h

size-parts : (ms : Marks) (j i k : ℕ) → size_of (slice_get (marked ms j i) k) ≡ size_of (slice_get ms k)
size-parts [] j i k = refl
size-parts (bs ∷ ms) zero i zero = length-set bs i true
size-parts (bs ∷ ms) zero i (suc k) = refl
size-parts (bs ∷ ms) (suc j) i zero = refl
size-parts (bs ∷ ms) (suc j) i (suc k) = size-parts ms j i k

pub size-same : (ms : Marks) (n k : Node) → size_of (slice_get (marked ms n.0 n.1) k.0) ≡ size_of (slice_get ms k.0)
size-same ms n k = size-parts ms n.0 n.1 k.0

shut-parts : (ms : Marks) (j i : ℕ) → open_of i (slice_get ms j) ≡ false → marked ms j i ≡ ms
shut-parts [] j i h = refl
shut-parts (bs ∷ ms) zero i h = ap (λ xs. xs ∷ ms) (set-shut bs i h)
shut-parts (bs ∷ ms) (suc j) i h = ap (λ xs. bs ∷ xs) (shut-parts ms j i h)

pub mark-shut : (ms : Marks) (n : Node) → is_open ms n ≡ false → marked ms n.0 n.1 ≡ ms
mark-shut ms n h = shut-parts ms n.0 n.1 h

fewer-parts : (ms : Marks) (j i : ℕ) → open_of i (slice_get ms j) ≡ true → left_open (marked ms j i) + 1 ≡ left_open ms
fewer-parts [] j i h = absurd cc
fewer-parts (bs ∷ ms) zero i h = let f = fewer bs i h in omega (arith, f)
fewer-parts (bs ∷ ms) (suc j) i h = let f = fewer-parts ms j i h in omega (arith, f)

pub mark-fewer : (ms : Marks) (n : Node) → is_open ms n ≡ true → left_open (marked ms n.0 n.1) + 1 ≡ left_open ms
mark-fewer ms n h = fewer-parts ms n.0 n.1 h

open-of-low : (i : ℕ) (o : Option (List Bool)) → open_of i o ≡ true → i < size_of o
open-of-low i None h = absurd cc
open-of-low i (Some bs) h = open-low bs i h

pub open-has : (ms : Marks) (n : Node) → is_open ms n ≡ true → HasMark ms n
open-has ms n h = open-of-low n.1 (slice_get ms n.0) h

set-of-low : (i : ℕ) (o : Option (List Bool)) → set_of i o ≡ true → i < size_of o
set-of-low i None h = absurd cc
set-of-low i (Some bs) h = set-low bs i h

pub marked-has : (ms : Marks) (n : Node) → is_marked ms n ≡ true → HasMark ms n
marked-has ms n h = set-of-low n.1 (slice_get ms n.0) h

shut-of-set : (i : ℕ) (o : Option (List Bool)) → i < size_of o → open_of i o ≡ false → set_of i o ≡ true
shut-of-set i None l h = absurd (omega (arith, l))
shut-of-set i (Some bs) l h = shut-set bs i l h

pub shut-marked : (ms : Marks) (n : Node) → HasMark ms n → is_open ms n ≡ false → is_marked ms n ≡ true
shut-marked ms n l h = shut-of-set n.1 (slice_get ms n.0) l h

none-set : (n k : ℕ) → is_set (slice_get (replicate n false) k) ≡ true → ⊥
none-set zero k h = cc
none-set (suc n) zero h = cc
none-set (suc n) (suc k) h = none-set n k h

none-parts : {A : Type 0} (f : A → ℕ) (xs : List A) (k l : ℕ) → set_of l (slice_get (map (λ x. replicate (f x) false) xs) k) ≡ true → ⊥
none-parts f [] k l h = cc
none-parts f (x ∷ xs) zero l h = none-set (f x) l h
none-parts f (x ∷ xs) (suc k) l h = none-parts f xs k l h

pub none-marked : {A : Type 0} (f : A → ℕ) (xs : List A) (n : Node) → is_marked (map (λ x. replicate (f x) false) xs) n ≡ true → ⊥
none-marked f xs n h = none-parts f xs n.0 n.1 h

sizes-parts : (ms : Marks) (j i : ℕ) → map (λ bs. length bs) (marked ms j i) ≡ map (λ bs. length bs) ms
sizes-parts [] j i = refl
sizes-parts (bs ∷ ms) zero i = ap (λ n. n ∷ map (λ bs. length bs) ms) (length-set bs i true)
sizes-parts (bs ∷ ms) (suc j) i = ap (λ ns. length bs ∷ ns) (sizes-parts ms j i)

pub mark-sizes : (ms : Marks) (n : Node) → map (λ bs. length bs) (marked ms n.0 n.1) ≡ map (λ bs. length bs) ms
mark-sizes ms n = sizes-parts ms n.0 n.1

pub none-sizes : {A : Type 0} (f : A → ℕ) (xs : List A) → map (λ bs. length bs) (map (λ x. replicate (f x) false) xs) ≡ map f xs
none-sizes f [] = refl
none-sizes f (x ∷ xs) = ap₂ (λ n ns. n ∷ ns) (length-replicate (f x) false) (none-sizes f xs)
