-- Classes with names, in the order of runs: by class, and in a class by name, as these first appear.
use Rattle.std.proofs.Common.{◌≡◌, List, [], ◌∷◌, ◌++◌, Bool, true, false, refl, sym, ap, ap₂, ◌∙◌, subst, inl, inr, append-nil, append_assoc}
use Rattle.std.specs.Prelude.{not, cond, ◌&&◌, ◌⊎◌, ⊤, bytes_eq}
use Rattle.std.specs.List.{filter}
use Rattle.std.proofs.lemmas.Bool.{cond-true, cond-false, cases_Bool, true≢false, and_parts}
use Rattle.std.proofs.lemmas.List.Elements.{filter-append}
use Rattle.omf_layout.proofs.SeveralLaws.ApartLaws.{Each, each-weaker}
use Rattle.omf_layout.proofs.SeveralLaws.GatherLaws.{Name, itself, same}

-- ---- Lists that are filtered

pub taken : {A : Type 0} (t : A → Bool) (x : A) (xs : List A) → t x ≡ true → filter t (x ∷ xs) ≡ x ∷ filter t xs
taken t x xs e = cond-true (t x) (x ∷ filter t xs) (filter t xs) e

pub left-out : {A : Type 0} (t : A → Bool) (x : A) (xs : List A) → t x ≡ false → filter t (x ∷ xs) ≡ filter t xs
left-out t x xs e = cond-false (t x) (x ∷ filter t xs) (filter t xs) e

pub filter-swap : {A : Type 0} (p q : A → Bool) (xs : List A) → filter p (filter q xs) ≡ filter q (filter p xs)
filter-swap p q [] = refl
filter-swap p q (x ∷ xs) = elim (cases_Bool (p x)) [
  | inl a ↦ elim (cases_Bool (q x)) [
    | inl b ↦
        ap (filter p) (taken q x xs b) ∙ taken p x (filter q xs) a ∙ ap (λ ys. x ∷ ys) (filter-swap p q xs)
        ∙ sym (taken q x (filter p xs) b) ∙ sym (ap (filter q) (taken p x xs a))
    | inr b ↦ ap (filter p) (left-out q x xs b) ∙ filter-swap p q xs ∙ sym (left-out q x (filter p xs) b) ∙ sym (ap (filter q) (taken p x xs a))
  ]
  | inr a ↦ elim (cases_Bool (q x)) [
    | inl b ↦ ap (filter p) (taken q x xs b) ∙ left-out p x (filter q xs) a ∙ filter-swap p q xs ∙ sym (ap (filter q) (left-out p x xs a))
    | inr b ↦ ap (filter p) (left-out q x xs b) ∙ filter-swap p q xs ∙ sym (ap (filter q) (left-out p x xs a))
  ]
]

pub filter-all : {A : Type 0} (t : A → Bool) (xs : List A) → Each (λ x. t x ≡ true) xs → filter t xs ≡ xs
filter-all t [] e = refl
filter-all t (x ∷ xs) e = taken t x xs e.0 ∙ ap (λ ys. x ∷ ys) (filter-all t xs e.1)

pub filter-none : {A : Type 0} (t : A → Bool) (xs : List A) → Each (λ x. t x ≡ false) xs → filter t xs ≡ []
filter-none t [] e = refl
filter-none t (x ∷ xs) e = left-out t x xs e.0 ∙ filter-none t xs e.1

pub each-filtered : {A : Type 0} (P : A → Type 0) (t : A → Bool) (xs : List A) → Each P xs → Each P (filter t xs)
each-filtered P t [] e = tt
each-filtered P t (x ∷ xs) e = elim (cases_Bool (t x)) [
  | inl y ↦ subst (Each P) (sym (taken t x xs y)) (e.0, each-filtered P t xs e.1)
  | inr n ↦ subst (Each P) (sym (left-out t x xs n)) (each-filtered P t xs e.1)
]

pub each-passes : {A : Type 0} (t : A → Bool) (xs : List A) → Each (λ x. t x ≡ true) (filter t xs)
each-passes t [] = tt
each-passes t (x ∷ xs) = elim (cases_Bool (t x)) [
  | inl y ↦ subst (Each (λ x. t x ≡ true)) (sym (taken t x xs y)) (y, each-passes t xs)
  | inr n ↦ subst (Each (λ x. t x ≡ true)) (sym (left-out t x xs n)) (each-passes t xs)
]

pub each-append : {A : Type 0} (P : A → Type 0) (xs ys : List A) → Each P xs → Each P ys → Each P (xs ++ ys)
each-append P [] ys e f = f
each-append P (x ∷ xs) ys e f = (e.0, each-append P xs ys e.1 f)

-- ---- Keys

abbrev pub Key : Type 0
Key = Name × Name

-- Of one class and another name; of another class.
abbrev pub beside : Key → Key → Bool
beside k m = bytes_eq k.0 m.0 && not (bytes_eq k.1 m.1)

abbrev pub apart : Key → Key → Bool
apart k m = not (bytes_eq k.0 m.0)

abbrev pub sorted : List Key → List Key
sorted [] = []
sorted (k ∷ ks) = k ∷ (filter (beside k) (sorted ks) ++ filter (apart k) (sorted ks))

not-true : (b : Bool) → not b ≡ true → b ≡ false
not-true true e = absurd (true≢false (sym e))
not-true false e = refl

beside-self : (k : Key) → beside k k ≡ false
beside-self k = ap₂ (λ a b. a && not b) (itself k.0) (itself k.1)

apart-self : (k : Key) → apart k k ≡ false
apart-self k = ap not (itself k.0)

pub apart-beside : (k m : Key) → apart k m ≡ true → beside k m ≡ false
apart-beside k m e = ap (λ b. b && not (bytes_eq k.1 m.1)) (not-true (bytes_eq k.0 m.0) e)

pub beside-apart : (k m : Key) → beside k m ≡ true → apart k m ≡ false
beside-apart k m e = ap not (and_parts (bytes_eq k.0 m.0) (not (bytes_eq k.1 m.1)) e).0

pub beside-class : (k m : Key) → beside k m ≡ true → k.0 ≡ m.0
beside-class k m e = same k.0 m.0 (and_parts (bytes_eq k.0 m.0) (not (bytes_eq k.1 m.1)) e).0

pub each-sorted : (P : Key → Type 0) (ks : List Key) → Each P ks → Each P (sorted ks)
each-sorted P [] e = tt
each-sorted P (k ∷ ks) e =
    let rest = each-sorted P ks e.1 in
    (e.0, each-append P (filter (beside k) (sorted ks)) (filter (apart k) (sorted ks)) (each-filtered P (beside k) (sorted ks) rest) (each-filtered P (apart k) (sorted ks) rest))

-- ---- One more key

-- A key is in a list.
abbrev pub In : Key → List Key → Type 0
In m [] = ⊥
In m (k ∷ ks) = (k ≡ m) ⊎ In m ks

pub in-left : (m : Key) (ks ls : List Key) → In m ks → In m (ks ++ ls)
in-left m [] ls i = absurd i
in-left m (k ∷ ks) ls (inl e) = inl e
in-left m (k ∷ ks) ls (inr i) = inr (in-left m ks ls i)

pub in-right : (m : Key) (ks ls : List Key) → In m ls → In m (ks ++ ls)
in-right m [] ls i = i
in-right m (k ∷ ks) ls i = inr (in-right m ks ls i)

pub in-filtered : (t : Key → Bool) (m : Key) (ks : List Key) → t m ≡ true → In m ks → In m (filter t ks)
in-filtered t m [] e i = absurd i
in-filtered t m (k ∷ ks) e (inl g) = subst (In m) (sym (taken t k ks (ap t g ∙ e))) (inl g)
in-filtered t m (k ∷ ks) e (inr i) = elim (cases_Bool (t k)) [
  | inl y ↦ subst (In m) (sym (taken t k ks y)) (inr (in-filtered t m ks e i))
  | inr n ↦ subst (In m) (sym (left-out t k ks n)) (in-filtered t m ks e i)
]

twice-filtered : {A : Type 0} (p t : A → Bool) (xs ys : List A) → filter p xs ≡ filter p ys → filter p (filter t xs) ≡ filter p (filter t ys)
twice-filtered p t xs ys e = filter-swap p t xs ∙ ap (filter t) e ∙ filter-swap t p ys

first-filtered : {A : Type 0} (p b a : A → Bool) (k : A) (xs ys : List A) → filter p xs ≡ filter p ys → filter p (k ∷ (filter b xs ++ filter a xs)) ≡ filter p (k ∷ (filter b ys ++ filter a ys))
first-filtered p b a k xs ys e = ap (λ zs. cond (p k) (k ∷ zs) zs) (
    filter-append p (filter b xs) (filter a xs) ∙ ap₂ (λ us vs. us ++ vs) (twice-filtered p b xs ys e) (twice-filtered p a xs ys e)
    ∙ sym (filter-append p (filter b ys) (filter a ys)))

-- Before keys of other classes: one that is not looked at, or is there already, changes nothing.
insert-none : (p : Key → Bool) (m : Key) (ks ls : List Key) → p m ≡ false → Each (λ l. apart m l ≡ true) ls → filter p (sorted (ks ++ m ∷ ls)) ≡ filter p (sorted (ks ++ ls))
insert-none p m [] ls e d =
    let far = each-sorted (λ l. apart m l ≡ true) ls d in
    left-out p m (filter (beside m) (sorted ls) ++ filter (apart m) (sorted ls)) e
    ∙ ap (filter p) (ap₂ (λ us vs. us ++ vs) (filter-none (beside m) (sorted ls) (each-weaker (λ l. apart m l ≡ true) (λ l. beside m l ≡ false) (apart-beside m) (sorted ls) far)) (filter-all (apart m) (sorted ls) far))
insert-none p m (k ∷ ks) ls e d = first-filtered p (beside k) (apart k) k (sorted (ks ++ m ∷ ls)) (sorted (ks ++ ls)) (insert-none p m ks ls e d)

insert-there : (m : Key) (ks ls : List Key) → In m ks → Each (λ l. apart m l ≡ true) ls → sorted (ks ++ m ∷ ls) ≡ sorted (ks ++ ls)
insert-there m [] ls i d = absurd i
insert-there m (k ∷ ks) ls (inl e) d = ap₂ (λ us vs. k ∷ (us ++ vs))
    (insert-none (beside k) m ks ls (ap (beside k) (sym e) ∙ beside-self k) d)
    (insert-none (apart k) m ks ls (ap (apart k) (sym e) ∙ apart-self k) d)
insert-there m (k ∷ ks) ls (inr i) d = ap (λ zs. k ∷ (filter (beside k) zs ++ filter (apart k) zs)) (insert-there m ks ls i d)

pub insert : (p : Key → Bool) (m : Key) (ks ls : List Key) → (p m ≡ true → In m ks) → Each (λ l. apart m l ≡ true) ls → filter p (sorted (ks ++ m ∷ ls)) ≡ filter p (sorted (ks ++ ls))
insert p m ks ls i d = elim (cases_Bool (p m)) [
  | inl y ↦ ap (filter p) (insert-there m ks ls (i y) d)
  | inr n ↦ insert-none p m ks ls n d
]

-- Keys that are there already, or are not looked at, change nothing.
pub append-known : (p : Key → Bool) (ks ls : List Key) → Each (λ m. p m ≡ true → In m ks) ls → filter p (sorted (ks ++ ls)) ≡ filter p (sorted ks)
append-known p ks [] e = ap (λ zs. filter p (sorted zs)) (append-nil ks)
append-known p ks (m ∷ ls) e =
    ap (λ zs. filter p (sorted zs)) (sym (append_assoc ks (m ∷ []) ls))
    ∙ append-known p (ks ++ m ∷ []) ls (each-weaker (λ n. p n ≡ true → In n ks) (λ n. p n ≡ true → In n (ks ++ m ∷ [])) (λ n i y. in-left n ks (m ∷ []) (i y)) ls e.1)
    ∙ insert p m ks [] e.0 tt ∙ ap (λ zs. filter p (sorted zs)) (append-nil ks)

-- ---- Keys in order

-- The keys are in the order already.
abbrev pub Tidy : List Key → Type 0
Tidy [] = ⊤
Tidy (k ∷ ks) = (filter (beside k) ks ++ filter (apart k) ks ≡ ks) × Tidy ks

pub sorted-tidy : (ks : List Key) → Tidy ks → sorted ks ≡ ks
sorted-tidy [] t = refl
sorted-tidy (k ∷ ks) t = ap (λ zs. k ∷ (filter (beside k) zs ++ filter (apart k) zs)) (sorted-tidy ks t.1) ∙ ap (λ zs. k ∷ zs) t.0

pub tidy-filter : (p : Key → Bool) (ks : List Key) → Tidy ks → Tidy (filter p ks)
tidy-filter p [] t = tt
tidy-filter p (k ∷ ks) t = elim (cases_Bool (p k)) [
  | inl y ↦ subst Tidy (sym (taken p k ks y)) (
    (
        ap₂ (λ us vs. us ++ vs) (filter-swap (beside k) p ks) (filter-swap (apart k) p ks)
        ∙ sym (filter-append p (filter (beside k) ks) (filter (apart k) ks)) ∙ ap (filter p) t.0),
    tidy-filter p ks t.1,
  )
  | inr n ↦ subst Tidy (sym (left-out p k ks n)) (tidy-filter p ks t.1)
]

-- Each key of one list is of another class than each of another list.
abbrev pub AreApart : List Key → List Key → Type 0
AreApart ks ls = Each (λ k. Each (λ l. apart k l ≡ true) ls) ks

pub tidy-both : (ks ls : List Key) → Tidy ks → Tidy ls → AreApart ks ls → Tidy (ks ++ ls)
tidy-both [] ls t u d = u
tidy-both (k ∷ ks) ls t u d = (
  (ap₂ (λ us vs. us ++ vs)
      (filter-append (beside k) ks ls ∙ ap (λ zs. filter (beside k) ks ++ zs) (filter-none (beside k) ls (each-weaker (λ l. apart k l ≡ true) (λ l. beside k l ≡ false) (apart-beside k) ls d.0)) ∙ append-nil (filter (beside k) ks))
      (filter-append (apart k) ks ls ∙ ap (λ zs. filter (apart k) ks ++ zs) (filter-all (apart k) ls d.0))
      ∙ sym (append_assoc (filter (beside k) ks) (filter (apart k) ks) ls) ∙ ap (λ zs. zs ++ ls) t.0),
  tidy-both ks ls t.1 u d.1,
)

pub tidy-sorted : (ks : List Key) → Tidy (sorted ks)
tidy-sorted [] = tt
tidy-sorted (k ∷ ks) =
    let all = sorted ks in
    let near = filter (beside k) all in
    let far = filter (apart k) all in
    let is_near : Each (λ x. beside k x ≡ true) near = each-passes (beside k) all in
    let is_far : Each (λ x. apart k x ≡ true) far = each-passes (apart k) all in
    let tidy = tidy-sorted ks in (
      (ap₂ (λ us vs. us ++ vs)
          (filter-append (beside k) near far
          ∙ ap₂ (λ us vs. us ++ vs) (filter-all (beside k) near is_near) (filter-none (beside k) far (each-weaker (λ x. apart k x ≡ true) (λ x. beside k x ≡ false) (apart-beside k) far is_far)) ∙ append-nil near)
          (filter-append (apart k) near far
          ∙ ap₂ (λ us vs. us ++ vs) (filter-none (apart k) near (each-weaker (λ x. beside k x ≡ true) (λ x. apart k x ≡ false) (beside-apart k) near is_near)) (filter-all (apart k) far is_far))),
      tidy-both near far (tidy-filter (beside k) all tidy) (tidy-filter (apart k) all tidy)
          (each-weaker (λ x. beside k x ≡ true) (λ x. Each (λ y. apart x y ≡ true) far)
          (λ x e. each-weaker (λ y. apart k y ≡ true) (λ y. apart x y ≡ true) (λ y f. ap (λ c. not (bytes_eq c y.0)) (sym (beside-class k x e)) ∙ f) far is_far) near is_near),
    )
