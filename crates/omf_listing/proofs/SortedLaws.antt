-- A list has one ascending order in which equal values stay as they were.
use Rattle.std.proofs.Common.{◌≡◌, ℕ, suc, ◌+◌, List, [], ◌∷◌, length, drop, get_or, Bool, true, false, refl, sym, ap, ap₂, ◌∙◌, subst, inl, inr, arith}
use Rattle.std.specs.Prelude.{cond, not, ◌&&◌, slice_index_or}
use Rattle.std.specs.Cmp.{IsStrictWeakOrder}
use Rattle.std.specs.List.{AllByRecursion, filter}
use Rattle.std.specs.List.Sorted.{IsSortedBy, ties}
use Rattle.std.specs.Ordering.{is_lt}
use Rattle.std.specs.declared.cmp.Ordering.{Ordering}
use Rattle.std.proofs.lemmas.Bool.{cases_Bool}
use Rattle.omf_listing.specs.Sorted.{AreSorted}

kept : {A : Type 0} (p : A → Bool) (P : A → Type 0) (xs : List A) → AllByRecursion P xs → AllByRecursion P (filter p xs)
kept p P [] a = tt
kept p P (x ∷ xs) a = elim (p x) as (λ b. AllByRecursion P (cond b (x ∷ filter p xs) (filter p xs))) [
  | true ↦ (a.0, kept p P xs a.1)
  | false ↦ kept p P xs a.1
]

module _ {A : Type 0} (lt : A → A → Bool) (o : IsStrictWeakOrder lt) where
  itself : (x : A) → lt x x ≡ false
  itself x = elim (cases_Bool (lt x x)) [
    | inl b ↦ o.one_way x x b
    | inr b ↦ b
  ]

  tail-sorted : (y : A) (ys : List A) → IsSortedBy lt (y ∷ ys) → IsSortedBy lt ys
  tail-sorted y ys up k d l h =
      let same : suc k + 1 ≡ suc (k + 1) = omega arith in
      subst (λ n. lt (slice_index_or (y ∷ ys) n d) (slice_index_or ys k d) ≡ false) same (up (suc k) d (omega arith) (omega (arith, h)))

  -- Nothing in an ascending list is below its first value.
  lower : (y u : A) (us : List A) → lt u y ≡ false → AllByRecursion (λ v. lt v u ≡ false) us → AllByRecursion (λ v. lt v y ≡ false) us
  lower y u [] e a = tt
  lower y u (v ∷ us) e a = (o.chain v u y a.0 e, lower y u us e a.1)

  none-below : (y : A) (ys : List A) → IsSortedBy lt (y ∷ ys) → AllByRecursion (λ u. lt u y ≡ false) ys
  none-below y [] up = tt
  none-below y (u ∷ us) up =
      let e : lt u y ≡ false = up 0 y (omega arith) (omega arith) in
      (e, lower y u us e (none-below u us (tail-sorted y (u ∷ us) up)))

  head-kept : (x : A) (xs : List A) → filter (ties lt x) (x ∷ xs) ≡ x ∷ filter (ties lt x) xs
  head-kept x xs = ap (λ b. cond (not b && not b) (x ∷ filter (ties lt x) xs) (filter (ties lt x) xs)) (itself x)

  not-below : (y z : A) (ys zs : List A) → IsSortedBy lt (y ∷ ys) → filter (ties lt z) (y ∷ ys) ≡ filter (ties lt z) (z ∷ zs) → lt z y ≡ false
  not-below y z ys zs up e =
      let all : AllByRecursion (λ u. lt u y ≡ false) (y ∷ ys) = (itself y, none-below y ys up) in
      (subst (AllByRecursion (λ u. lt u y ≡ false)) (e ∙ head-kept z zs) (kept (ties lt z) (λ u. lt u y ≡ false) (y ∷ ys) all)).0

  rest-same : (p : A → Bool) (y : A) (ys zs : List A) → filter p (y ∷ ys) ≡ filter p (y ∷ zs) → filter p ys ≡ filter p zs
  rest-same p y ys zs = elim (p y) as (λ b. cond b (y ∷ filter p ys) (filter p ys) ≡ cond b (y ∷ filter p zs) (filter p zs) → filter p ys ≡ filter p zs) [
    | true ↦ λ e. ap (drop 1) e
    | false ↦ λ e. e
  ]

  same-order : (ys zs : List A) → IsSortedBy lt ys → IsSortedBy lt zs → ((x : A) → filter (ties lt x) ys ≡ filter (ties lt x) zs) → ys ≡ zs
  same-order [] [] u v h = refl
  same-order [] (z ∷ zs) u v h = absurd (omega (arith, ap length (h z ∙ head-kept z zs)))
  same-order (y ∷ ys) [] u v h = absurd (omega (arith, ap length (sym (head-kept y ys) ∙ h y)))
  same-order (y ∷ ys) (z ∷ zs) u v h =
      let a : lt z y ≡ false = not-below y z ys zs u (h z) in
      let b : lt y z ≡ false = not-below z y zs ys v (sym (h y)) in
      let e = sym (head-kept y ys) ∙ h y ∙ ap₂ (λ s t. cond (not s && not t) (z ∷ filter (ties lt y) zs) (filter (ties lt y) zs)) b a in
      let same : y ≡ z = ap (λ l. get_or l 0 y) e in
      ap₂ (λ w ws. w ∷ ws) same (same-order ys zs (tail-sorted y ys u) (tail-sorted z zs v) (λ x. rest-same (ties lt x) y ys zs (h x ∙ ap (λ w. filter (ties lt x) (w ∷ zs)) (sym same))))

pub sorted-once : {A : Type 0} (cmp : A → A → Ordering) → IsStrictWeakOrder (λ x y. is_lt (cmp x y)) → (xs ys zs : List A) → AreSorted cmp xs ys → AreSorted cmp xs zs → ys ≡ zs
sorted-once cmp o xs ys zs a b = same-order (λ x y. is_lt (cmp x y)) o ys zs a.ascending b.ascending (λ x. a.stable x ∙ sym (b.stable x))
