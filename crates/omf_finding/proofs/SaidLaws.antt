-- From an offset back to addresses.
use Rattle.std.proofs.Common.{◌≡◌, ◌⊎◌, inl, inr, ℕ, suc, ◌+◌, ◌-◌, ◌^◌, ◌≤◌, Bool, true, false, cond, List, [], ◌∷◌, sym, ap, subst, ◌∙◌, arith}
use Rattle.std.specs.Prelude.{Option, Some, None, nat_lt, Contains, filter, filter_map}
use Rattle.std.specs.List.{cons_option}
use Rattle.std.proofs.lemmas.Bool.{le-leb}
use Rattle.std.proofs.lemmas.Bool.Decides.{leb_tells}
use Rattle.omf_frame.specs.Bytes.{difference}
use Rattle.omf_image.proofs.RunLaws.{contains_first, contains_more, contains_here, contains_none}
use Rattle.omf_reloc.specs.Offsets.{readings, offsets}
use Rattle.omf_finding.specs.Said.{said, OffsetsSayAddresses}

-- ---- members of lists that are made of others

module _ (h : ℕ → Option ℕ) where
  from-option : (o : Option ℕ) (y : ℕ) (ys : List ℕ) → Contains (cons_option o ys) y → (o ≡ Some y) ⊎ Contains ys y
  from-option None y ys c = inr c
  from-option (Some z) y ys c = elim (contains_first y z ys c) [ inl e ↦ inl (ap Some (sym e)) | inr d ↦ inr d ]

  to-option : (o : Option ℕ) (y : ℕ) (ys : List ℕ) → Contains ys y → Contains (cons_option o ys) y
  to-option None y ys c = c
  to-option (Some z) y ys c = contains_more y z ys c

  at-option : (o : Option ℕ) (y : ℕ) (ys : List ℕ) → o ≡ Some y → Contains (cons_option o ys) y
  at-option o y ys e = subst (λ (p : Option ℕ). Contains (cons_option p ys) y) (sym e) (contains_here y ys)

  mapped-from : (xs : List ℕ) (y : ℕ) → Contains (filter_map h xs) y → (x : ℕ) × Contains xs x × (h x ≡ Some y)
  mapped-from [] y c = absurd (contains_none y c)
  mapped-from (x ∷ xs) y c = elim (from-option (h x) y (filter_map h xs) c) [
    | inl e ↦ (x, contains_here x xs, e)
    | inr d ↦ let more = mapped-from xs y d in (more.0, contains_more more.0 x xs more.1, more.2)
  ]

  mapped-to : (xs : List ℕ) (x y : ℕ) → Contains xs x → h x ≡ Some y → Contains (filter_map h xs) y
  mapped-to [] x y c e = absurd (contains_none x c)
  mapped-to (z ∷ xs) x y c e = elim (contains_first x z xs c) [
    | inl s ↦ at-option (h z) y (filter_map h xs) (ap h (sym s) ∙ e)
    | inr d ↦ to-option (h z) y (filter_map h xs) (mapped-to xs x y d e)
  ]

module _ (test : ℕ → Bool) where
  kept-by : (b : Bool) (x y : ℕ) (xs ys : List ℕ) → (Contains ys y → Contains xs y) → Contains (cond b (x ∷ ys) ys) y → Contains (x ∷ xs) y
  kept-by true x y xs ys again d = elim (contains_first y x ys d) [
    | inl e ↦ subst (λ (z : ℕ). Contains (z ∷ xs) y) e (contains_here y xs)
    | inr f ↦ contains_more y x xs (again f)
  ]
  kept-by false x y xs ys again d = contains_more y x xs (again d)

  kept-from : (xs : List ℕ) (y : ℕ) → Contains (filter test xs) y → Contains xs y
  kept-from [] y c = c
  kept-from (x ∷ xs) y c = kept-by (test x) x y xs (filter test xs) (λ d. kept-from xs y d) c

  still-by : (b : Bool) (x y : ℕ) (ys : List ℕ) → Contains ys y → Contains (cond b (x ∷ ys) ys) y
  still-by true x y ys f = contains_more y x ys f
  still-by false x y ys f = f

  kept-to : (xs : List ℕ) (y : ℕ) → Contains xs y → test y ≡ true → Contains (filter test xs) y
  kept-to [] y c e = c
  kept-to (x ∷ xs) y c e = elim (contains_first y x xs c) [
    | inl s ↦ subst (λ (b : Bool). Contains (cond b (x ∷ filter test xs) (filter test xs)) y) (sym (ap test (sym s) ∙ e)) (subst (λ (z : ℕ). Contains (z ∷ filter test xs) y) s (contains_here y (filter test xs)))
    | inr d ↦ still-by (test x) x y (filter test xs) (kept-to xs y d e)
  ]

-- ---- differences

difference-from : (a b c : ℕ) → difference a b ≡ Some c → a ≡ c + b
difference-from a b c e = elim (leb_tells b a) [
  | inl t ↦
      let d : difference a b ≡ Some (a - b) = ap (λ (k : Bool). cond k (Some (a - b)) None) (le-leb b a t.1) in
      let both : Some (a - b) ≡ Some c = sym d ∙ e in
      let same : a - b ≡ c = cc in
      omega (arith, same, t.1)
  | inr t ↦
      let d : difference a b ≡ None = ap (λ (k : Bool). cond k (Some (a - b)) None) t.0 in
      let both : None ≡ Some c = sym d ∙ e in
      absurd cc
]

difference-to : (a b c : ℕ) → a ≡ c + b → difference a b ≡ Some c
difference-to a b c e =
    let low : b ≤ a = omega (arith, e) in
    let same : a - b ≡ c = omega (arith, e) in
    ap (λ (k : Bool). cond k (Some (a - b)) None) (le-leb b a low) ∙ ap Some same

pub offsets-say : OffsetsSayAddresses
offsets-say w n u base o address short = (there, back)
  where
    there : Contains (offsets w n address u base) o → Contains (said n u base o) address
    there c =
        let m = mapped-from (λ less. difference (address + u) (base + less)) (readings n u) o (kept-from (λ x. nat_lt x (2 ^ w)) (filter_map (λ less. difference (address + u) (base + less)) (readings n u)) o c) in
        let e = difference-from (address + u) (base + m.0) o m.2 in
        mapped-to (λ less. difference (o + base + less) u) (readings n u) m.0 address m.1 (difference-to (o + base + m.0) u address (omega (arith, e)))

    back : Contains (said n u base o) address → Contains (offsets w n address u base) o
    back c =
        let m = mapped-from (λ less. difference (o + base + less) u) (readings n u) address c in
        let e = difference-from (o + base + m.0) u address m.2 in
        kept-to (λ x. nat_lt x (2 ^ w)) (filter_map (λ less. difference (address + u) (base + less)) (readings n u)) o
        (mapped-to (λ less. difference (address + u) (base + less)) (readings n u) m.0 o m.1 (difference-to (address + u) (base + m.0) o (omega (arith, e))))
        (le-leb (suc o) (2 ^ w) (omega (arith, short)))
