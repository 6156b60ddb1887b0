-- The addresses at which a segment is tried: each four closed bytes of it, where the program has them.
use Rattle.std.proofs.Common.{◌≡◌, ◌⊎◌, inl, inr, ℕ, zero, suc, ◌+◌, ◌-◌, ◌*◌, ◌<◌, ◌≤◌, ◌^◌, Bool, true, false, List, [], ◌∷◌, ◌++◌, length, drop, take, Option, Some, None, refl, sym, ap, ap₂, subst, ◌∙◌, arith}
use Rattle.std.specs.Prelude.{Contains, IsSome, get_or, is_some, option_to_list, slice_get, ◌==◌, if◌then◌else◌}
use Rattle.std.proofs.lemmas.Bool.Decides.{leb_tells}
use Rattle.std.proofs.lemmas.List.{take_all}
use Rattle.std.proofs.lemmas.List.Elements.{Contains-append_left, Contains-push}
use Rattle.omf_finding.specs.Fours.{AreAt, four, four_closed}
use Rattle.omf_finding.specs.Near.{IsTried}
use Rattle.omf_finding.specs.Run.{closed_byte}
use Rattle.omf_finding.specs.Inner.Nearing.{Adds, IsShownBy, IsShownIn, IsShownOf}
use Rattle.omf_finding.specs.Inner.Shaping.{AreIntervals, AreWindows, IsInterval, IsWithin, address_for, front, is_kept, key_at, offset_in}
use Rattle.omf_finding.specs.Inner.Walking.{byte_with}
use Rattle.omf_finding.specs.declared.patterning.Interval.{Interval}
use Rattle.omf_finding.specs.declared.patterning.PatternByte.{PatternByte}
use Rattle.omf_finding.proofs.AgreesLaws.{at-index, closed-some}
use Rattle.omf_finding.proofs.CandidateLaws.{take-cases}
use Rattle.omf_finding.proofs.FoundLaws.{get-drop}
use Rattle.omf_finding.proofs.FourLaws.{front-at}
use Rattle.omf_finding.proofs.PlaceLaws.{offset-from, window-again, windows-at}
use Rattle.omf_finding.proofs.RareLaws.{IsClosedAt, key-to, next-within, number}
use Rattle.omf_finding.proofs.WindowLaws.{IsFirst, address-is, offset-found, offset-here, range-begins, range-ends}

-- ---- addresses are added

adds-none : (P : ℕ → Type 0) (old : List ℕ) → ((a : ℕ) → P a → ⊥) → Adds P old old
adds-none P old none = record { kept = λ a c. c; added = λ a p. absurd (none a p) }

adds-then : (P Q R : ℕ → Type 0) (old mid new : List ℕ) → ((a : ℕ) → R a → P a ⊎ Q a) → Adds P old mid → Adds Q mid new → Adds R old new
adds-then P Q R old mid new either p q = record { kept = λ a c. q.kept a (p.kept a c); added = λ a r. by a (either a r) }
  where
    by : (a : ℕ) → P a ⊎ Q a → Contains new a
    by a (inl x) = q.kept a (p.added a x)
    by a (inr y) = q.added a y

adds-as : (P Q : ℕ → Type 0) (old new : List ℕ) → ((a : ℕ) → Q a → P a) → Adds P old new → Adds Q old new
adds-as P Q old new f h = record { kept = h.kept; added = λ a q. h.added a (f a q) }

-- ---- where a program has four bytes

-- An address at which the four bytes of the j-th window from one on are at an offset.
pub record IsOfWindow (sorted : List ℕ) (base key offset first j address : ℕ) : Type 0 where
  pub at : ℕ
  pub window : offset_in sorted (first + j) key ≡ Some at
  pub shown : address_for base at offset ≡ Some address

abbrev pub IsOfWindows : List ℕ → ℕ → ℕ → ℕ → ℕ → ℕ → ℕ → Type 0
IsOfWindows sorted base key offset first k address = (j : ℕ) × (j < k) × IsOfWindow sorted base key offset first j address

module _ (program sorted : List ℕ) (windows : AreWindows (is_kept []) program sorted) (base key offset first : ℕ) (begun : IsFirst sorted key first) where
  abbrev Shown : ℕ → Type 0
  Shown address = IsShownBy program base key offset address

  -- with the 64th window, there are as many
  pub too-common : (last : ℕ) → offset_in sorted (first + 63) key ≡ Some last → AreAt program key 64
  too-common last e = windows-at program sorted windows key first 64 each
    where
      each : (i : ℕ) → i < 64 → offset_in sorted (first + i) key ≡ Some (offset-from sorted key first i)
      each i low =
          let end = offset-found sorted key (first + 63) last e in
          let within = end.within in
          let window = end.window in
          let short = end.low in
          let inside : first + i < length sorted = omega (arith, low, within) in
          let least = begun.after (first + i) 0 (omega arith) inside in
          let most = windows.rises (first + i) (first + 63) 0 (omega (arith, low)) within in
          offset-here sorted key (first + i) (offset-from sorted key first i) inside (omega (arith, least)) (omega (arith, most, window, short))

  pub adds-common : (o : Option ℕ) → offset_in sorted (first + 63) key ≡ o → is_some o ≡ true → (old : List ℕ) → Adds Shown old old
  adds-common None e s old = absurd cc
  adds-common (Some last) e s old = adds-none Shown old (λ a h. h.rare (too-common last e))

  front-low : (xs : List ℕ) (at k : ℕ) → front (drop at xs) ≡ Some k → at < length xs
  front-low [] zero k e = absurd cc
  front-low [] (suc at) k e = absurd cc
  front-low (x ∷ xs) zero k e = omega arith
  front-low (x ∷ xs) (suc at) k e = let low = front-low xs at k e in omega (arith, low)

  -- each address is that of a window before one that has another number
  pub shown-window : (k : ℕ) → offset_in sorted (first + k) key ≡ None → (address : ℕ) → Shown address → IsOfWindows sorted base key offset first k address
  shown-window k none address h =
      let inside = front-low program h.at key h.there in
      let fits = h.low in
      let short : h.at < 2 ^ 32 = omega (arith, fits) in
      let found = windows.has h.at key inside short h.there refl in
      let n = found.0 in
      let value = window-again sorted n (key * 2 ^ 32 + h.at) found.1 found.2 in
      let from = range-begins sorted key first begun n h.at value in
      let to = range-ends sorted key first begun windows.rises (first + k) (omega arith) none n h.at found.1 value short in
      let j = n - first in
      let back : n ≡ first + j = omega (arith, from) in (
        j,
        omega (arith, from, to),
        record {
          at = h.at;
          window = subst (λ (m : ℕ). offset_in sorted m key ≡ Some h.at) back (offset-here sorted key n h.at found.1 value short);
          shown = address-is base h.at offset address h.low h.place;
        },
      )

  abbrev pub AddsWindows : ℕ → List ℕ → List ℕ → Type 0
  AddsWindows k old new = Adds (IsOfWindows sorted base key offset first k) old new

  pub windows-begin : (old : List ℕ) → AddsWindows 0 old old
  windows-begin old = adds-none (IsOfWindows sorted base key offset first 0) old (λ a h. let low = h.1 in omega (arith, low))

  pub windows-next : (k at : ℕ) (old mid new : List ℕ) → offset_in sorted (first + k) key ≡ Some at → new ≡ mid ++ option_to_list (address_for base at offset) → AddsWindows k old mid → AddsWindows (k + 1) old new
  windows-next k at old mid new e q h = subst (AddsWindows (k + 1) old) (sym q) (record { kept = λ a c. Contains-append_left mid (option_to_list (address_for base at offset)) a (h.kept a c); added = one })
    where
      one : (a : ℕ) → IsOfWindows sorted base key offset first (k + 1) a → Contains (mid ++ option_to_list (address_for base at offset)) a
      one a w = elim (leb_tells (w.0 + 1) k) [
        | inl t ↦ Contains-append_left mid (option_to_list (address_for base at offset)) a (h.added a (w.0, omega (arith, t.1), w.2))
        | inr t ↦
            let low = w.1 in
            let same : w.0 ≡ k = omega (arith, t.1, low) in
            let both : Some w.2.at ≡ Some at = sym w.2.window ∙ ap (λ (n : ℕ). offset_in sorted (first + n) key) same ∙ e in
            let at-same : w.2.at ≡ at = cc in
            let shown : address_for base at offset ≡ Some a = subst (λ (n : ℕ). address_for base n offset ≡ Some a) at-same w.2.shown in
            subst (λ (o : Option ℕ). Contains (mid ++ option_to_list o) a) (sym shown) (Contains-push mid a)
      ]

  -- all windows with the number are before this one
  pub windows-end : (k : ℕ) (old new : List ℕ) → offset_in sorted (first + k) key ≡ None → AddsWindows k old new → Adds Shown old new
  windows-end k old new none h = adds-as (IsOfWindows sorted base key offset first k) Shown old new (shown-window k none) h

  pub windows-done : (k : ℕ) (o : Option ℕ) (old new : List ℕ) → offset_in sorted (first + 63) key ≡ o → is_some o ≡ false → 63 ≤ k → AddsWindows k old new → Adds Shown old new
  windows-done k (Some last) old new e s low h = absurd cc
  windows-done k None old new e s low h =
      adds-as (IsOfWindows sorted base key offset first k) Shown old new (λ a x. let w = shown-window 63 e a x in let less = w.1 in (w.0, omega (arith, low, less), w.2)) h

-- ---- of an interval

module _ (program : List ℕ) (base : ℕ) (i : Interval) where
  abbrev In : ℕ → ℕ → Type 0
  In n address = IsShownIn program base i n address

  pub interval-begins : (old : List ℕ) → Adds (In 0) old old
  interval-begins old = adds-none (In 0) old (λ a h. let low = h.below in omega (arith, low))

  in-cases : (n address : ℕ) → In (n + 1) address → In n address ⊎ ((key : ℕ) × (key_at i n ≡ Some key) × IsShownBy program base key (i.first + n) address)
  in-cases n address h = elim (leb_tells (h.index + 1) n) [
    | inl t ↦ inl (record { index = h.index; below = omega (arith, t.1); key = h.key; closed = h.closed; shown = h.shown })
    | inr t ↦
        let below = h.below in
        let same : h.index ≡ n = omega (arith, t.1, below) in
        inr (h.key, subst (λ (k : ℕ). key_at i k ≡ Some h.key) same h.closed, subst (λ (k : ℕ). IsShownBy program base h.key (i.first + k) address) same h.shown)
  ]

  pub interval-same : (n : ℕ) (old new : List ℕ) → key_at i n ≡ None → Adds (In n) old new → Adds (In (n + 1)) old new
  interval-same n old new none h = adds-as (In n) (In (n + 1)) old new (λ a x. by a (in-cases n a x)) h
    where
      by : (a : ℕ) → In n a ⊎ ((key : ℕ) × (key_at i n ≡ Some key) × IsShownBy program base key (i.first + n) a) → In n a
      by a (inl y) = y
      by a (inr y) = let both : None ≡ Some y.0 = sym none ∙ y.1 in absurd cc

  pub interval-more : (n key offset : ℕ) (old mid new : List ℕ) → key_at i n ≡ Some key → offset ≡ i.first + n → Adds (In n) old mid → Adds (IsShownBy program base key offset) mid new → Adds (In (n + 1)) old new
  interval-more n key offset old mid new e at h more = adds-then (In n) (IsShownBy program base key offset) (In (n + 1)) old mid new (λ a x. by a (in-cases n a x)) h more
    where
      by : (a : ℕ) → In n a ⊎ ((k : ℕ) × (key_at i n ≡ Some k) × IsShownBy program base k (i.first + n) a) → In n a ⊎ IsShownBy program base key offset a
      by a (inl y) = inl y
      by a (inr y) =
          let both : Some y.0 ≡ Some key = sym y.1 ∙ e in
          let same : y.0 ≡ key = cc in
          inr (subst (λ (k : ℕ). IsShownBy program base key k a) (sym at) (subst (λ (k : ℕ). IsShownBy program base k (i.first + n) a) same y.2))

  pub interval-ends : (n : ℕ) (old new : List ℕ) → length i.values.now ≤ n → Adds (In n) old new → Adds (In (length i.values.now)) old new
  interval-ends n old new low h = adds-as (In n) (In (length i.values.now)) old new (λ a x. let below = x.below in record { index = x.index; below = omega (arith, low, below); key = x.key; closed = x.closed; shown = x.shown }) h

-- ---- of all intervals

module _ (program : List ℕ) (base : ℕ) where
  -- The addresses that the first intervals show are there.
  abbrev pub HasShown : List Interval → List ℕ → Type 0
  HasShown is addresses = (a : ℕ) → IsShownOf program base is a → Contains addresses a

  pub shown-first : (is : List Interval) (addresses : List ℕ) → HasShown (take 0 is) addresses
  shown-first is addresses a h = let c = h.1.1 in absurd (omega (arith, c))

  pub shown-next : (is : List Interval) (n : ℕ) (i : Interval) → i ≡ get_or is n i → n < length is → (old new : List ℕ) → HasShown (take n is) old → Adds (IsShownIn program base i (length i.values.now)) old new → HasShown (take (n + 1) is) new
  shown-next is n i e low old new h more a x = elim (take-cases is n i x.0 e low x.1) [
    | inl c ↦ more.kept a (h a (x.0, c, x.2))
    | inr q ↦ more.added a (subst (λ (j : Interval). IsShownIn program base j (length j.values.now) a) (sym q) x.2)
  ]

  pub shown-last : (is : List Interval) (n : ℕ) → length is ≤ n → (addresses : List ℕ) → HasShown (take n is) addresses → HasShown is addresses
  shown-last is n long addresses h = subst (λ (js : List Interval). HasShown js addresses) (take_all n is long) h

-- ---- each address that is tried is shown

pub record AreFourOf (o p q r : Option ℕ) (key : ℕ) : Type 0 where
  pub a : ℕ
  pub b : ℕ
  pub c : ℕ
  pub d : ℕ
  pub first : o ≡ Some a
  pub second : p ≡ Some b
  pub third : q ≡ Some c
  pub fourth : r ≡ Some d
  pub is : number a b c d ≡ key

pub four-back : (o p q r : Option ℕ) (key : ℕ) → four o p q r ≡ Some key → AreFourOf o p q r key
four-back None p q r key e = absurd cc
four-back (Some a) None q r key e = absurd cc
four-back (Some a) (Some b) None r key e = absurd cc
four-back (Some a) (Some b) (Some c) None key e = absurd cc
four-back (Some a) (Some b) (Some c) (Some d) key e = record { a = a; b = b; c = c; d = d; first = refl; second = refl; third = refl; fourth = refl; is = let q : Some (number a b c d) ≡ Some key = e in cc }

cell-value : (v m b : ℕ) → closed_byte (byte_with (Some v) (Some m)) ≡ Some b → ((m == 1) ≡ false) × (v ≡ b)
cell-value v m b e = by (m == 1) e
  where
    by : (t : Bool) → (if t then None else Some v) ≡ Some b → (t ≡ false) × (v ≡ b)
    by true e = absurd cc
    by false e = (refl, let q : Some v ≡ Some b = e in cc)

some-from : (o : Option ℕ) (b : ℕ) → o ≡ Some b → IsSome o
some-from o b e = subst IsSome (sym e) refl

module _ (byte : ℕ → Option PatternByte) (i : Interval) (is : IsInterval byte i) where
  -- a closed byte of the segment in the interval
  cell-back : (at j b : ℕ) → at + j < length i.values.now → closed_byte (byte (i.first + (at + j))) ≡ Some b → IsClosedAt (drop at i.values.now) (drop at i.marks.now) j b
  cell-back at j b low h =
      let same = is.same in
      let v = at-index i.values.now (at + j) low in
      let m = at-index i.marks.now (at + j) (omega (arith, low, same)) in
      let known : byte (i.first + (at + j)) ≡ byte_with (Some v.0) (Some m.0) = is.each (at + j) low ∙ ap₂ byte_with v.1 m.1 in
      let two = cell-value v.0 m.0 b (sym (ap closed_byte known) ∙ h) in
      record {
        mark = m.0;
        value_is = get-drop at j i.values.now ∙ v.1 ∙ ap Some two.1;
        mark_is = get-drop at j i.marks.now ∙ m.1;
        closed = two.0;
      }

  -- four closed bytes of the segment, of which the first is in the interval
  fours-in : (x key : ℕ) → four_closed byte x ≡ Some key → IsWithin i x → (at : ℕ) × (at < length i.values.now) × (key_at i at ≡ Some key) × (i.first + at ≡ x)
  fours-in x key e w =
      let f = four-back (closed_byte (byte x)) (closed_byte (byte (x + 1))) (closed_byte (byte (x + 2))) (closed_byte (byte (x + 3))) key e in
      let there = λ (y b : ℕ) (h : closed_byte (byte y) ≡ Some b). closed-some (byte y) (some-from (closed_byte (byte y)) b h) in
      let one = next-within byte i is x w (there (x + 1) f.b f.second) in
      let two = next-within byte i is (x + 1) one (subst (λ (n : ℕ). IsSome (byte n)) (let e : x + 2 ≡ x + 1 + 1 = omega arith in e) (there (x + 2) f.c f.third)) in
      let three = next-within byte i is (x + 1 + 1) two (subst (λ (n : ℕ). IsSome (byte n)) (let e : x + 3 ≡ x + 1 + 1 + 1 = omega arith in e) (there (x + 3) f.d f.fourth)) in
      let at = x - i.first in
      let from = w.0 in
      let to = three.1 in
      let low = λ (j : ℕ) (less : j < 4). (let l : at + j < length i.values.now = omega (arith, from, to, less) in l) in
      let get = λ (j b : ℕ) (less : j < 4) (h : closed_byte (byte (x + j)) ≡ Some b). cell-back at j b (low j less) (subst (λ (n : ℕ). closed_byte (byte n) ≡ Some b) (let e : x + j ≡ i.first + (at + j) = omega (arith, from) in e) h) in
      let zeroth : x ≡ x + 0 = omega arith in
      let found = key-to (drop at i.values.now) (drop at i.marks.now) f.a f.b f.c f.d (record {
        first = get 0 f.a (omega arith) (subst (λ (n : ℕ). closed_byte (byte n) ≡ Some f.a) zeroth f.first);
        second = get 1 f.b (omega arith) f.second;
        third = get 2 f.c (omega arith) f.third;
        fourth = get 3 f.d (omega arith) f.fourth;
      }) in
      (at, omega (arith, from, w.1), found ∙ ap Some f.is, omega (arith, from))

pub tried-shown : (byte : ℕ → Option PatternByte) (is : List Interval) → AreIntervals byte is → (program : List ℕ) (base address : ℕ) → base + length program ≤ 2 ^ 32 → IsTried byte program base address → IsShownOf program base is address
tried-shown byte is are program base address fits h =
    let x = h.x in
    let f = four-back (closed_byte (byte x)) (closed_byte (byte (x + 1))) (closed_byte (byte (x + 2))) (closed_byte (byte (x + 3))) h.key h.closed in
    let shown = are.every x (closed-some (byte x) (some-from (closed_byte (byte x)) f.a f.first)) in
    let i = shown.0 in
    let k = fours-in byte i (are.each i shown.1) x h.key h.closed shown.2 in
    let g = four-back (slice_get program h.at) (slice_get program (h.at + 1)) (slice_get program (h.at + 2)) (slice_get program (h.at + 3)) h.key h.there in
    let inside = within program h.at g.a g.first in
    let place = h.place in (
      i,
      shown.1,
      record {
        index = k.0;
        below = k.1;
        key = h.key;
        closed = k.2;
        shown = record {
          at = h.at;
          low = omega (arith, inside, fits);
          there = front-at program h.at ∙ h.there;
          place = ap (λ (n : ℕ). address + n) k.3 ∙ place;
          rare = h.rare;
        };
      },
    )
  where
    within : (xs : List ℕ) (k v : ℕ) → slice_get xs k ≡ Some v → k < length xs
    within [] k v e = absurd cc
    within (y ∷ xs) zero v e = omega arith
    within (y ∷ xs) (suc k) v e = let low = within xs k v e in omega (arith, low)
