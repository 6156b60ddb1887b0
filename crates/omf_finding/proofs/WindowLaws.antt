-- The windows of a program in order, and the places that they show.
use Rattle.std.proofs.Common.{◌≡◌, inl, inr, ℕ, suc, ◌+◌, ◌-◌, ◌*◌, ◌<◌, ◌≤◌, ◌^◌, Bool, true, false, List, [], ◌∷◌, ◌++◌, length, drop, Option, Some, None, refl, sym, ap, subst, ◌∙◌, arith}
use Rattle.std.specs.Prelude.{Contains, IsSome, slice_get, get_or, nat_le, nat_lt, ◌&&◌, ◌≢◌, option_map, if◌then◌else◌}
use Rattle.std.specs.List.{AllPairs}
use Rattle.std.specs.List.Sorted.{IsPermutation, IsNonDecreasing, IsStrictlyIncreasing}
use Rattle.std.specs.Option.{option_and_then}
use Rattle.std.proofs.lemmas.Bool.{leb-true, le-leb, and_parts, and_from}
use Rattle.std.proofs.lemmas.Bool.Decides.{leb_tells, Decides-eqb}
use Rattle.std.proofs.lemmas.Cmp.{nat_eq_equiv}
use Rattle.std.proofs.lemmas.List.{length_push, get_or_append_left, get_or_push}
use Rattle.std.proofs.lemmas.List.Elements.{Contains-append_left, Contains-get_or, Contains-push, Contains-push_cases}
use Rattle.std.proofs.lemmas.List.Kept.{AllPairs-from_increasing}
use Rattle.std.proofs.lemmas.List.Sorted.{Contains-permutation, IsPermutation-sym}
use Rattle.std.proofs.lemmas.Map.Keys.{IsDistinct-IsPermutation, IsStrictlyIncreasing-from_distinct}
use Rattle.std.proofs.lemmas.Map.Made.{IsDistinct-from_AllPairs}
use Rattle.std.proofs.lemmas.Option.{cond_some, slice_get_within, slice_get-get_or, get_or_from_slice_get}
use Rattle.omf_finding.specs.Inner.Shaping.{AreWindows, HasPlaces, HasWindows, IsWindow, OnlyWindows, address_for, front, if_kept, offset_in, offset_with, tried_at, tried_with, window_at}
use Rattle.omf_finding.specs.declared.shapes.Tried.{Tried}
use Rattle.omf_finding.specs.declared.shapes.Tried.TheVariants as tried

-- ---- the windows so far

pub windows-none : (kept : ℕ → Bool) (program windows : List ℕ) → HasWindows kept program windows 0
windows-none kept program windows at key low = absurd (omega (arith, low))

-- the offset is past 2^32, or has no window that is kept
pub windows-same : (kept : ℕ → Bool) (program windows : List ℕ) (n : ℕ) → ((key : ℕ) → n < 2 ^ 32 → front (drop n program) ≡ Some key → kept key ≡ true → ⊥) → HasWindows kept program windows n → HasWindows kept program windows (n + 1)
windows-same kept program windows n none h at key low short e k = elim (leb_tells (at + 1) n) [
  | inl t ↦ h at key (omega (arith, t.1)) short e k
  | inr t ↦
      let same : at ≡ n = omega (arith, t.1, low) in
      absurd (none key (subst (λ (k : ℕ). k < 2 ^ 32) same short) (subst (λ (k : ℕ). front (drop k program) ≡ Some key) same e) k)
]

pub windows-past : (kept : ℕ → Bool) (program windows : List ℕ) (n : ℕ) → 2 ^ 32 ≤ n → HasWindows kept program windows n → HasWindows kept program windows (n + 1)
windows-past kept program windows n far = windows-same kept program windows n (λ key short e k. omega (arith, far, short))

-- a window that is kept
kept-is : (kept : ℕ → Bool) (program : List ℕ) (n key : ℕ) → front (drop n program) ≡ Some key → kept key ≡ true → window_at kept program n ≡ Some (key * 2 ^ 32 + n)
kept-is kept program n key e k =
    ap (λ (o : Option ℕ). option_map (λ (x : ℕ). x * 2 ^ 32 + n) (option_and_then (if_kept kept) o)) e ∙ ap (λ (b : Bool). option_map (λ (x : ℕ). x * 2 ^ 32 + n) (if b then Some key else None)) k

pub windows-left : (kept : ℕ → Bool) (program windows : List ℕ) (n : ℕ) → window_at kept program n ≡ None → HasWindows kept program windows n → HasWindows kept program windows (n + 1)
windows-left kept program windows n none = windows-same kept program windows n missing
  where
    missing : (key : ℕ) → n < 2 ^ 32 → front (drop n program) ≡ Some key → kept key ≡ true → ⊥
    missing key short e k = let wrong : None ≡ Some (key * 2 ^ 32 + n) = sym none ∙ kept-is kept program n key e k in cc

pub windows-more : (kept : ℕ → Bool) (program windows new : List ℕ) (n window : ℕ) → window_at kept program n ≡ Some window → new ≡ windows ++ window ∷ [] → HasWindows kept program windows n → HasWindows kept program new (n + 1)
windows-more kept program windows new n window w e h = subst (λ (xs : List ℕ). HasWindows kept program xs (n + 1)) (sym e) (λ at key low short f k. elim (leb_tells (at + 1) n) [
  | inl t ↦ Contains-append_left windows (window ∷ []) (key * 2 ^ 32 + at) (h at key (omega (arith, t.1)) short f k)
  | inr t ↦
      let same : at ≡ n = omega (arith, t.1, low) in
      let both : Some (key * 2 ^ 32 + at) ≡ Some window = sym (kept-is kept program at key f k) ∙ ap (window_at kept program) same ∙ w in
      let one : window ≡ key * 2 ^ 32 + at = cc in
      subst (Contains (windows ++ window ∷ [])) one (Contains-push windows window)
])

-- ---- there are no others

-- one more at the end
pub pairs-push : {X : Type 0} (R : X → X → Type 0) (xs : List X) (y : X) → AllPairs R xs → ((x : X) → Contains xs x → R x y) → AllPairs R (xs ++ y ∷ [])
pairs-push R xs y h last i j d less inside = elim (leb_tells (j + 1) (length xs)) [
  | inl t ↦
      let to : j < length xs = omega (arith, t.1) in
      let from : i < length xs = omega (arith, less, to) in
      rw (get_or_append_left xs (y ∷ []) d i from, get_or_append_left xs (y ∷ []) d j to) (h i j d less to)
  | inr t ↦
      let long = length_push xs y in
      let from : i < length xs = omega (arith, less, inside, long) in
      rw (get_or_append_left xs (y ∷ []) d i from, get_or_push xs y d j (omega (arith, t.1, inside, long))) (last (get_or xs i d) (Contains-get_or xs i d from))
]

pub rises-push : (xs : List ℕ) (y : ℕ) → IsStrictlyIncreasing xs → ((x : ℕ) → Contains xs x → x < y) → IsStrictlyIncreasing (xs ++ y ∷ [])
rises-push xs y h last k low = pairs-push (λ a b. a < b) xs y (AllPairs-from_increasing xs h) last k (k + 1) 0 (omega arith) low

window-wider : (program : List ℕ) (n window : ℕ) → IsWindow program n window → IsWindow program (n + 1) window
window-wider program n window h = record { at = h.at; key = h.key; before = let b = h.before in omega (arith, b); low = h.low; there = h.there; is = h.is }

window-is : (kept : ℕ → Bool) (program : List ℕ) (n window : ℕ) → window_at kept program n ≡ Some window → (key : ℕ) × (front (drop n program) ≡ Some key) × (window ≡ key * 2 ^ 32 + n)
window-is kept program n window e = by (front (drop n program)) refl e
  where
    some : (b : Bool) (key : ℕ) → option_map (λ (x : ℕ). x * 2 ^ 32 + n) (if b then Some key else None) ≡ Some window → window ≡ key * 2 ^ 32 + n
    some true key e = let q : key * 2 ^ 32 + n ≡ window = cc in sym q
    some false key e = absurd cc

    by : (o : Option ℕ) → front (drop n program) ≡ o → option_map (λ (key : ℕ). key * 2 ^ 32 + n) (option_and_then (if_kept kept) o) ≡ Some window → (key : ℕ) × (front (drop n program) ≡ Some key) × (window ≡ key * 2 ^ 32 + n)
    by None f e = absurd cc
    by (Some key) f e = (key, f, some (kept key) key e)

pub only-none : (program : List ℕ) → OnlyWindows program [] 0
only-none program = record { each = λ w c. absurd (omega (arith, c.1)); distinct = λ i j d less inside. absurd (omega (arith, inside)) }

pub only-same : (program windows : List ℕ) (n : ℕ) → OnlyWindows program windows n → OnlyWindows program windows (n + 1)
only-same program windows n h = record { each = λ w c. window-wider program n w (h.each w c); distinct = h.distinct }

pub only-more : (kept : ℕ → Bool) (program windows new : List ℕ) (n window : ℕ) → n < 2 ^ 32 → window_at kept program n ≡ Some window → new ≡ windows ++ window ∷ [] → OnlyWindows program windows n → OnlyWindows program new (n + 1)
only-more kept program windows new n window short w e h =
    let made = window-is kept program n window w in
    let one : IsWindow program (n + 1) window = record { at = n; key = made.0; before = omega arith; low = short; there = made.1; is = made.2 } in
    subst (λ (xs : List ℕ). OnlyWindows program xs (n + 1)) (sym e) (record {
      each = λ v c. elim (Contains-push_cases windows window v c) [ inl d ↦ window-wider program n v (h.each v d) | inr q ↦ subst (IsWindow program (n + 1)) q one ];
      distinct = pairs-push (λ x y. x ≢ y) windows window h.distinct (λ v c same. let old = h.each v c in let b = old.before in let l = old.low in let i = old.is in let m = made.2 in omega (arith, b, l, i, m, short, same));
    })

pub windows-increase : (windows sorted : List ℕ) → IsPermutation windows sorted → IsNonDecreasing sorted → AllPairs (λ x y. x ≢ y) windows → IsStrictlyIncreasing sorted
windows-increase windows sorted moved rises apart =
    IsStrictlyIncreasing-from_distinct sorted rises (IsDistinct-IsPermutation _ nat_eq_equiv.symm windows sorted moved (IsDistinct-from_AllPairs Decides-eqb windows apart))

pub only-moved : (program windows sorted : List ℕ) (n : ℕ) → IsPermutation windows sorted → OnlyWindows program windows n → (w : ℕ) → Contains sorted w → IsWindow program n w
only-moved program windows sorted n moved h w c = h.each w (Contains-permutation sorted windows w (IsPermutation-sym windows sorted moved) c)

pub windows-moved : (kept : ℕ → Bool) (program windows sorted : List ℕ) (n : ℕ) → IsPermutation windows sorted → HasWindows kept program windows n → HasWindows kept program sorted n
windows-moved kept program windows sorted n moved h at key low short e k = Contains-permutation windows sorted (key * 2 ^ 32 + at) moved (h at key low short e k)

-- ---- the offset of a window

and-not : (a b : Bool) → (A : Type 0) → (x : Option ℕ) → (if a && b then x else None) ≡ None → IsSome x → a ≡ true → b ≡ true → A
and-not true true A x e s p q = absurd cc
and-not true false A x e s p q = absurd (let w : false ≡ true = q in cc)
and-not false b A x e s p q = absurd (let w : false ≡ true = p in cc)

pub offset-is : (key at : ℕ) → at < 2 ^ 32 → offset_with key (key * 2 ^ 32 + at) ≡ Some at
offset-is key at low =
    let back : key * 2 ^ 32 + at - key * 2 ^ 32 ≡ at = omega arith in
    let yes = and_from (nat_le (key * 2 ^ 32) (key * 2 ^ 32 + at)) (nat_lt (key * 2 ^ 32 + at - key * 2 ^ 32) (2 ^ 32))
    (le-leb (key * 2 ^ 32) (key * 2 ^ 32 + at) (omega arith)) (le-leb (suc (key * 2 ^ 32 + at - key * 2 ^ 32)) (2 ^ 32) (omega (arith, low, back))) in
    ap (λ (t : Bool). if t then Some (key * 2 ^ 32 + at - key * 2 ^ 32) else None) yes ∙ ap Some back

pub record IsOffset (sorted : List ℕ) (key number at : ℕ) : Type 0 where
  pub within : number < length sorted
  pub window : get_or sorted number 0 ≡ key * 2 ^ 32 + at
  pub low : at < 2 ^ 32

offset-of : (key window at : ℕ) → offset_with key window ≡ Some at → (window ≡ key * 2 ^ 32 + at) × (at < 2 ^ 32)
offset-of key window at e =
    let c = cond_some (nat_le (key * 2 ^ 32) window && nat_lt (window - key * 2 ^ 32) (2 ^ 32)) (window - key * 2 ^ 32) at e in
    let both = and_parts (nat_le (key * 2 ^ 32) window) (nat_lt (window - key * 2 ^ 32) (2 ^ 32)) c.0 in
    let above = leb-true (key * 2 ^ 32) window both.0 in
    let short = leb-true (suc (window - key * 2 ^ 32)) (2 ^ 32) both.1 in
    let same = c.1 in
    (omega (arith, above, same), omega (arith, short, same))

pub offset-found : (sorted : List ℕ) (key number at : ℕ) → offset_in sorted number key ≡ Some at → IsOffset sorted key number at
offset-found sorted key number at e = by (slice_get sorted number) refl e
  where
    by : (o : Option ℕ) → slice_get sorted number ≡ o → option_and_then (offset_with key) o ≡ Some at → IsOffset sorted key number at
    by None f e = absurd cc
    by (Some w) f e = let is = offset-of key w at e in record { within = slice_get_within sorted number w f; window = get_or_from_slice_get sorted number w 0 f ∙ is.0; low = is.1 }

pub offset-here : (sorted : List ℕ) (key number at : ℕ) → number < length sorted → get_or sorted number 0 ≡ key * 2 ^ 32 + at → at < 2 ^ 32 → offset_in sorted number key ≡ Some at
offset-here sorted key number at within is short =
    let got : slice_get sorted number ≡ Some (get_or sorted number 0) = slice_get-get_or sorted number 0 within in
    ap (option_and_then (offset_with key)) (got ∙ ap Some is) ∙ offset-is key at short

-- of windows with one number, a later one is at a later offset
pub offsets-rise : (sorted : List ℕ) (key : ℕ) → IsStrictlyIncreasing sorted → (j k a b : ℕ) → j < k → offset_in sorted j key ≡ Some a → offset_in sorted k key ≡ Some b → a < b
offsets-rise sorted key increases j k a b less e f =
    let one = offset-found sorted key j a e in
    let other = offset-found sorted key k b f in
    let inside = other.within in
    let order = AllPairs-from_increasing sorted increases j k 0 less inside in
    let x = one.window in
    let y = other.window in
    omega (arith, order, x, y)

-- a program has the number at a window's offset
pub offset-there : {kept : ℕ → Bool} (program sorted : List ℕ) → AreWindows kept program sorted → (key number at : ℕ) → offset_in sorted number key ≡ Some at → front (drop at program) ≡ Some key
offset-there program sorted windows key number at e =
    let one = offset-found sorted key number at e in
    let w = windows.each (get_or sorted number 0) (Contains-get_or sorted number 0 one.within) in
    let is = w.is in
    let below = w.low in
    let window = one.window in
    let low = one.low in
    let place : w.at ≡ at = omega (arith, is, below, window, low) in
    let same : w.key ≡ key = omega (arith, is, below, window, low) in
    subst (λ (k : ℕ). front (drop at program) ≡ Some k) same (subst (λ (n : ℕ). front (drop n program) ≡ Some w.key) place w.there)

-- ---- which windows are tried

-- Exactly the windows before a place are less than those with a number.
pub record IsFirst (sorted : List ℕ) (key first : ℕ) : Type 0 where
  pub before : (k d : ℕ) → k < first → get_or sorted k d < key * 2 ^ 32
  pub after : (k d : ℕ) → first ≤ k → k < length sorted → key * 2 ^ 32 ≤ get_or sorted k d

module _ (sorted : List ℕ) (key first : ℕ) (is : IsFirst sorted key first) where
  -- a window with the number is not before the first one that is tried
  pub range-begins : (k at : ℕ) → get_or sorted k 0 ≡ key * 2 ^ 32 + at → first ≤ k
  range-begins k at e = elim (leb_tells first k) [ inl t ↦ t.1 | inr t ↦ absurd (let less = is.before k 0 t.1 in omega (arith, less, e)) ]

  -- and before one that has another
  pub range-ends : IsNonDecreasing sorted → (number : ℕ) → first ≤ number → offset_in sorted number key ≡ None → (k at : ℕ) → k < length sorted → get_or sorted k 0 ≡ key * 2 ^ 32 + at → at < 2 ^ 32 → k < number
  range-ends rises number from none k at low e short = elim (leb_tells (k + 1) number) [
    | inl t ↦ omega (arith, t.1)
    | inr t ↦
        let below : number ≤ k = omega (arith, t.1) in
        let within : number < length sorted = omega (arith, below, low) in
        let w = get_or sorted number 0 in
        let least = is.after number 0 from within in
        let most : w ≤ key * 2 ^ 32 + at = subst (λ (n : ℕ). w ≤ n) e (rises number k 0 below low) in
        let got : slice_get sorted number ≡ Some w = slice_get-get_or sorted number 0 within in
        let missing : offset_with key w ≡ None = sym (ap (option_and_then (offset_with key)) got) ∙ none in
        and-not (nat_le (key * 2 ^ 32) w) (nat_lt (w - key * 2 ^ 32) (2 ^ 32)) (k < number) (Some (w - key * 2 ^ 32)) missing refl (le-leb (key * 2 ^ 32) w least)
        (le-leb (suc (w - key * 2 ^ 32)) (2 ^ 32) (omega (arith, most, least, short)))
  ]

-- ---- places

pub address-is : (base at offset address : ℕ) → base + at < 2 ^ 32 → address + offset ≡ base + at → address_for base at offset ≡ Some address
address-is base at offset address short e =
    let yes = and_from (nat_lt (base + at) (2 ^ 32)) (nat_le offset (base + at)) (le-leb (suc (base + at)) (2 ^ 32) (omega (arith, short))) (le-leb offset (base + at) (omega (arith, e))) in
    let back : base + at - offset ≡ address = omega (arith, e) in
    ap (λ (t : Bool). if t then Some (base + at - offset) else None) yes ∙ ap Some back

pub address-back : (base at offset address : ℕ) → address_for base at offset ≡ Some address → address + offset ≡ base + at
address-back base at offset address e =
    let c = cond_some (nat_lt (base + at) (2 ^ 32) && nat_le offset (base + at)) (base + at - offset) address e in
    let both = and_parts (nat_lt (base + at) (2 ^ 32)) (nat_le offset (base + at)) c.0 in
    let above = leb-true offset (base + at) both.1 in
    let same = c.1 in
    omega (arith, above, same)

module _ (test : ℕ → Bool) where
  -- a place passes the test
  place-passes : (o : Option ℕ) (address : ℕ) → tried_at test o ≡ tried.Place address → test address ≡ true
  place-passes None address e = absurd cc
  place-passes (Some a) address e = by (test a) refl e
    where
      by : (t : Bool) → test a ≡ t → (if t then tried.Place a else tried.Other) ≡ tried.Place address → test address ≡ true
      by true f g = let same : a ≡ address = cc in subst (λ (n : ℕ). test n ≡ true) same f
      by false f g = absurd cc

  pub tried-passes : (base offset : ℕ) (o : Option ℕ) (address : ℕ) → tried_with test base offset o ≡ tried.Place address → test address ≡ true
  tried-passes base offset None address e = absurd cc
  tried-passes base offset (Some at) address e = place-passes (address_for base at offset) address e

  pub tried-is : (base at offset address : ℕ) → base + at < 2 ^ 32 → address + offset ≡ base + at → test address ≡ true → tried_with test base offset (Some at) ≡ tried.Place address
  tried-is base at offset address short e passes =
      ap (tried_at test) (address-is base at offset address short e) ∙ ap (λ (t : Bool). if t then tried.Place address else tried.Other) passes

  pub tried-at : (base offset : ℕ) (o : Option ℕ) (address : ℕ) → tried_with test base offset o ≡ tried.Place address → (at : ℕ) × (o ≡ Some at) × (address + offset ≡ base + at)
  tried-at base offset None address e = absurd cc
  tried-at base offset (Some at) address e = (at, refl, by (address_for base at offset) refl e)
    where
      by : (a : Option ℕ) → address_for base at offset ≡ a → tried_at test a ≡ tried.Place address → address + offset ≡ base + at
      by None f e = absurd cc
      by (Some a) f e = too (test a) e
        where
          too : (t : Bool) → (if t then tried.Place a else tried.Other) ≡ tried.Place address → address + offset ≡ base + at
          too true e = let same : a ≡ address = cc in subst (λ (n : ℕ). n + offset ≡ base + at) same (address-back base at offset a f)
          too false e = absurd cc

  pub on-some : (base offset : ℕ) (o : Option ℕ) → (tried_with test base offset o ≡ tried.End → ⊥) → (at : ℕ) × (o ≡ Some at)
  on-some base offset None h = absurd (h refl)
  on-some base offset (Some at) h = (at, refl)

  pub end-none : (base offset : ℕ) (o : Option ℕ) → tried_with test base offset o ≡ tried.End → o ≡ None
  end-none base offset None e = refl
  end-none base offset (Some at) e = absurd (by (address_for base at offset) e)
    where
      by : (a : Option ℕ) → tried_at test a ≡ tried.End → ⊥
      by None e = cc
      by (Some a) e = too (test a) e
        where
          too : (t : Bool) → (if t then tried.Place a else tried.Other) ≡ tried.End → ⊥
          too true e = cc
          too false e = cc

-- The places so far: each is shown by a window up to here, and each that one shows is there.
pub record AreSoFar (try : ℕ → Tried) (first number : ℕ) (places : List ℕ) : Type 0 where
  pub from : first ≤ number
  pub on : (k : ℕ) → first ≤ k → k < number → try k ≡ tried.End → ⊥
  pub shown : (address : ℕ) → Contains places address → (k : ℕ) × (k < number) × (try k ≡ tried.Place address)
  pub has : HasPlaces try first number places
  pub rising : IsStrictlyIncreasing places

module _ (try : ℕ → Tried) (first : ℕ) where
  pub places-first : AreSoFar try first first []
  places-first = record {
    from = omega arith;
    on = λ k from to. absurd (omega (arith, from, to));
    shown = λ a c. absurd (omega (arith, c.1));
    has = λ k a from to e. absurd (omega (arith, from, to));
    rising = λ k low. absurd (omega (arith, low));
  }

  module _ (number : ℕ) (places : List ℕ) (h : AreSoFar try first number places) where
    on-next : (try number ≡ tried.End → ⊥) → (k : ℕ) → first ≤ k → k < number + 1 → try k ≡ tried.End → ⊥
    on-next here k from to e = elim (leb_tells (k + 1) number) [
      | inl t ↦ h.on k from (omega (arith, t.1)) e
      | inr t ↦ let same : k ≡ number = omega (arith, t.1, to) in here (subst (λ (n : ℕ). try n ≡ tried.End) same e)
    ]

    pub places-same : try number ≡ tried.Other → AreSoFar try first (number + 1) places
    places-same other = record {
      from = let low = h.from in omega (arith, low);
      on = on-next (λ e. let both : tried.Other ≡ tried.End = sym other ∙ e in cc);
      shown = λ a c. let s = h.shown a c in let low = s.1 in (s.0, omega (arith, low), s.2);
      has = λ k a from to e. elim (leb_tells (k + 1) number) [
        | inl t ↦ h.has k a from (omega (arith, t.1)) e
        | inr t ↦
            let same : k ≡ number = omega (arith, t.1, to) in
            let both : tried.Other ≡ tried.Place a = sym other ∙ ap try (sym same) ∙ e in
            absurd cc
      ];
      rising = h.rising;
    }

    pub places-more : ((j k a b : ℕ) → j < k → try j ≡ tried.Place a → try k ≡ tried.Place b → a < b) → (new : List ℕ) (address : ℕ) → try number ≡ tried.Place address → new ≡ places ++ address ∷ []
        → AreSoFar try first (number + 1) new
    places-more order new address is q = subst (AreSoFar try first (number + 1)) (sym q) (record {
      from = let low = h.from in omega (arith, low);
      on = on-next (λ e. let both : tried.Place address ≡ tried.End = sym is ∙ e in cc);
      shown = λ a c. elim (Contains-push_cases places address a c) [
        | inl d ↦ let s = h.shown a d in let low = s.1 in (s.0, omega (arith, low), s.2)
        | inr e ↦ (number, omega arith, is ∙ ap tried.Place e)
      ];
      has = λ k a from to e. elim (leb_tells (k + 1) number) [
        | inl t ↦ Contains-append_left places (address ∷ []) a (h.has k a from (omega (arith, t.1)) e)
        | inr t ↦
            let same : k ≡ number = omega (arith, t.1, to) in
            let both : tried.Place address ≡ tried.Place a = sym is ∙ ap try (sym same) ∙ e in
            let one : address ≡ a = cc in
            subst (Contains (places ++ address ∷ [])) one (Contains-push places address)
      ];
      rising = rises-push places address h.rising (λ a c. let s = h.shown a c in order s.0 number a address s.1 s.2 is);
    })

module _ (test : ℕ → Bool) (base offset : ℕ) (sorted : List ℕ) (key : ℕ) where
  abbrev pub trying : ℕ → Tried
  trying n = tried_with test base offset (offset_in sorted n key)

  -- of places that windows show, a later window shows a later one
  pub tries-rise : IsStrictlyIncreasing sorted → (j k a b : ℕ) → j < k → trying j ≡ tried.Place a → trying k ≡ tried.Place b → a < b
  tries-rise increases j k a b less e f =
      let one = tried-at test base offset (offset_in sorted j key) a e in
      let other = tried-at test base offset (offset_in sorted k key) b f in
      let order = offsets-rise sorted key increases j k one.0 other.0 less one.1 other.1 in
      let x = one.2 in
      let y = other.2 in
      omega (arith, order, x, y)

  pub places-pass : (first number : ℕ) (places : List ℕ) → AreSoFar trying first number places → (address : ℕ) → Contains places address → test address ≡ true
  places-pass first number places h address c = let s = h.shown address c in tried-passes test base offset (offset_in sorted s.0 key) address s.2
