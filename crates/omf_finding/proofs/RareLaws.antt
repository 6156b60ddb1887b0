-- Four closed bytes in a row.
use Rattle.std.proofs.Common.{◌≡◌, inl, inr, ℕ, ◌+◌, ◌-◌, ◌<◌, ◌≤◌, Bool, true, false, List, [], ◌∷◌, length, drop, Option, Some, None, refl, sym, ap, ap₂, subst, ◌∙◌, arith}
use Rattle.std.specs.Prelude.{All, IsSome, IsNone, slice_get, not, ◌==◌, ◌&&◌, if◌then◌else◌}
use Rattle.std.specs.Int.{from_le_bytes, w32}
use Rattle.std.proofs.lemmas.Bool.{and_parts, and_from}
use Rattle.std.proofs.lemmas.Bool.Decides.{leb_tells}
use Rattle.std.proofs.lemmas.List.Elements.{All-contains}
use Rattle.std.proofs.lemmas.Option.{slice_get_within}
use Rattle.omf_finding.specs.Agrees.{Agrees, HasFour}
use Rattle.omf_finding.specs.Found.{program_byte}
use Rattle.omf_finding.specs.Run.{closed_byte}
use Rattle.omf_finding.specs.declared.patterning.Interval.{Interval}
use Rattle.omf_finding.specs.declared.patterning.PatternByte.{PatternByte}
use Rattle.omf_finding.specs.declared.shapes.Rare.{Rare}
use Rattle.omf_finding.specs.Inner.Shaping.{AreIntervals, HasNone, HasNoneBelow, IsInterval, IsRareAt, IsRareOf, IsWithin, closed_front, front, key_at}
use Rattle.omf_finding.specs.Inner.Walking.{byte_with}
use Rattle.omf_finding.proofs.FoundLaws.{get-drop, below-base, from-drop}
use Rattle.omf_finding.proofs.AgreesLaws.{at-index, closed-some, not-both}

-- ---- four bytes at the front

-- A byte at an index, and a closed mark there.
pub record IsClosedAt (vs ms : List ℕ) (k v : ℕ) : Type 0 where
  pub mark : ℕ
  pub value_is : slice_get vs k ≡ Some v
  pub mark_is : slice_get ms k ≡ Some mark
  pub closed : (mark == 1) ≡ false

pub record AreFour (vs ms : List ℕ) (a b c d : ℕ) : Type 0 where
  pub first : IsClosedAt vs ms 0 a
  pub second : IsClosedAt vs ms 1 b
  pub third : IsClosedAt vs ms 2 c
  pub fourth : IsClosedAt vs ms 3 d

abbrev pub number : ℕ → ℕ → ℕ → ℕ → ℕ
number a b c d = from_le_bytes w32 (a ∷ b ∷ c ∷ d ∷ [])

not-true : (b : Bool) → not b ≡ true → b ≡ false
not-true true h = absurd cc
not-true false h = refl

not-false : (b : Bool) → b ≡ false → not b ≡ true
not-false true h = absurd cc
not-false false h = refl

pub front-of : (xs : List ℕ) (a b c d : ℕ) → slice_get xs 0 ≡ Some a → slice_get xs 1 ≡ Some b → slice_get xs 2 ≡ Some c → slice_get xs 3 ≡ Some d → front xs ≡ Some (number a b c d)
front-of [] a b c d e f g h = absurd cc
front-of (p ∷ []) a b c d e f g h = absurd cc
front-of (p ∷ q ∷ []) a b c d e f g h = absurd cc
front-of (p ∷ q ∷ r ∷ []) a b c d e f g h = absurd cc
front-of (p ∷ q ∷ r ∷ s ∷ xs) a b c d e f g h =
    let one : p ≡ a = cc in
    let two : q ≡ b = cc in
    let three : r ≡ c = cc in
    let four : s ≡ d = cc in
    ap (λ (z : ℕ). Some (number z q r s)) one ∙ ap (λ (z : ℕ). Some (number a z r s)) two ∙ ap (λ (z : ℕ). Some (number a b z s)) three ∙ ap (λ (z : ℕ). Some (number a b c z)) four

pub record HasKey (vs ms : List ℕ) (key : ℕ) : Type 0 where
  pub a : ℕ
  pub b : ℕ
  pub c : ℕ
  pub d : ℕ
  pub are : AreFour vs ms a b c d
  pub key_is : key ≡ number a b c d

key-by : (vs ms : List ℕ) (m n o p : ℕ) (key : ℕ) → (m == 1) ≡ false → (n == 1) ≡ false → (o == 1) ≡ false → (p == 1) ≡ false → front vs ≡ Some key → HasKey vs (m ∷ n ∷ o ∷ p ∷ ms) key
key-by [] ms m n o p key e f g h k = absurd cc
key-by (a ∷ []) ms m n o p key e f g h k = absurd cc
key-by (a ∷ b ∷ []) ms m n o p key e f g h k = absurd cc
key-by (a ∷ b ∷ c ∷ []) ms m n o p key e f g h k = absurd cc
key-by (a ∷ b ∷ c ∷ d ∷ vs) ms m n o p key e f g h k = record {
  a = a;
  b = b;
  c = c;
  d = d;
  are = record {
    first = record { mark = m; value_is = refl; mark_is = refl; closed = e };
    second = record { mark = n; value_is = refl; mark_is = refl; closed = f };
    third = record { mark = o; value_is = refl; mark_is = refl; closed = g };
    fourth = record { mark = p; value_is = refl; mark_is = refl; closed = h };
  };
  key_is = let q : Some (number a b c d) ≡ Some key = k in cc;
}

all-closed : (m n o p : ℕ) → (not (m == 1) && (not (n == 1) && (not (o == 1) && not (p == 1)))) ≡ true → ((m == 1) ≡ false) × ((n == 1) ≡ false) × ((o == 1) ≡ false) × ((p == 1) ≡ false)
all-closed m n o p h =
    let one = and_parts (not (m == 1)) (not (n == 1) && (not (o == 1) && not (p == 1))) h in
    let two = and_parts (not (n == 1)) (not (o == 1) && not (p == 1)) one.1 in
    let three = and_parts (not (o == 1)) (not (p == 1)) two.1 in
    (not-true (m == 1) one.0, not-true (n == 1) two.0, not-true (o == 1) three.0, not-true (p == 1) three.1)

pub key-from : (vs ms : List ℕ) (key : ℕ) → closed_front vs ms ≡ Some key → HasKey vs ms key
key-from vs [] key h = absurd cc
key-from vs (m ∷ []) key h = absurd cc
key-from vs (m ∷ n ∷ []) key h = absurd cc
key-from vs (m ∷ n ∷ o ∷ []) key h = absurd cc
key-from vs (m ∷ n ∷ o ∷ p ∷ ms) key h = by (not (m == 1) && (not (n == 1) && (not (o == 1) && not (p == 1)))) refl h
  where
    by : (t : Bool) → (not (m == 1) && (not (n == 1) && (not (o == 1) && not (p == 1)))) ≡ t → (if t then front vs else None) ≡ Some key → HasKey vs (m ∷ n ∷ o ∷ p ∷ ms) key
    by true e k = let c = all-closed m n o p e in key-by vs ms m n o p key c.0 c.1 c.2 c.3 k
    by false e k = absurd cc

same-mark : (ms : List ℕ) (k m : ℕ) (b : Bool) → slice_get ms k ≡ Some m → (n : ℕ) → slice_get ms k ≡ Some n → (n == 1) ≡ b → (m == 1) ≡ b
same-mark ms k m b e n f h = let same : m ≡ n = cc in subst (λ (z : ℕ). (z == 1) ≡ b) (sym same) h

pub key-to : (vs ms : List ℕ) (a b c d : ℕ) → AreFour vs ms a b c d → closed_front vs ms ≡ Some (number a b c d)
key-to vs [] a b c d h = let e = h.first.mark_is in absurd cc
key-to vs (m ∷ []) a b c d h = let e = h.second.mark_is in absurd cc
key-to vs (m ∷ n ∷ []) a b c d h = let e = h.third.mark_is in absurd cc
key-to vs (m ∷ n ∷ o ∷ []) a b c d h = let e = h.fourth.mark_is in absurd cc
key-to vs (m ∷ n ∷ o ∷ p ∷ ms) a b c d h =
    let all = m ∷ n ∷ o ∷ p ∷ ms in
    let one = not-false (m == 1) (same-mark all 0 m false refl h.first.mark h.first.mark_is h.first.closed) in
    let two = not-false (n == 1) (same-mark all 1 n false refl h.second.mark h.second.mark_is h.second.closed) in
    let three = not-false (o == 1) (same-mark all 2 o false refl h.third.mark h.third.mark_is h.third.closed) in
    let four = not-false (p == 1) (same-mark all 3 p false refl h.fourth.mark h.fourth.mark_is h.fourth.closed) in
    let yes =
    and_from (not (m == 1)) (not (n == 1) && (not (o == 1) && not (p == 1))) one (and_from (not (n == 1)) (not (o == 1) && not (p == 1)) two (and_from (not (o == 1)) (not (p == 1)) three four)) in
    ap (λ (t : Bool). if t then front vs else None) yes ∙ front-of vs a b c d h.first.value_is h.second.value_is h.third.value_is h.fourth.value_is

-- ---- in an interval

pub none-more : (i : Interval) (n : ℕ) → HasNoneBelow i n → key_at i n ≡ None → HasNoneBelow i (n + 1)
none-more i n h e at low = elim (leb_tells (at + 1) n) [
  | inl t ↦ h at (omega (arith, t.1))
  | inr t ↦ let same : n ≡ at = omega (arith, t.1, low) in subst (λ (k : ℕ). key_at i k ≡ None) same e
]

closed-mark : (v m : ℕ) → IsSome (closed_byte (byte_with (Some v) (Some m))) → (m == 1) ≡ false
closed-mark v m h = by (m == 1) h
  where
    by : (b : Bool) → IsSome (if b then None else Some v) → b ≡ false
    by true h = absurd cc
    by false h = refl

module _ (byte : ℕ → Option PatternByte) (i : Interval) (is : IsInterval byte i) where
  -- a closed byte of the segment in the interval
  closed-at : (at j : ℕ) → at + j < length i.values.now → IsSome (closed_byte (byte (i.first + (at + j)))) → (v : ℕ) × IsClosedAt (drop at i.values.now) (drop at i.marks.now) j v
  closed-at at j low h =
      let v = at-index i.values.now (at + j) low in
      let m = at-index i.marks.now (at + j) (omega (arith, low, is.same)) in
      let known : byte (i.first + (at + j)) ≡ byte_with (Some v.0) (Some m.0) = is.each (at + j) low ∙ ap₂ byte_with v.1 m.1 in (
        v.0,
        record {
          mark = m.0;
          value_is = get-drop at j i.values.now ∙ v.1;
          mark_is = get-drop at j i.marks.now ∙ m.1;
          closed = closed-mark v.0 m.0 (subst (λ (p : Option PatternByte). IsSome (closed_byte p)) known h);
        },
      )

  -- the next place is in it too, if there is a byte
  pub next-within : (x : ℕ) → IsWithin i x → IsSome (byte (x + 1)) → IsWithin i (x + 1)
  next-within x w s = elim (leb_tells (x + 2) (i.first + length i.values.now)) [
    | inl t ↦ (omega (arith, w.0), omega (arith, t.1))
    | inr t ↦
        let same : i.first + length i.values.now ≡ x + 1 = omega (arith, t.1, w.1) in
        absurd (not-both (byte (x + 1)) s (subst (λ (n : ℕ). IsNone (byte n)) same is.after))
  ]

  no-four : HasNone i → (h : HasFour byte) → IsWithin i h.x → ⊥
  no-four none h w =
      let x = h.x in
      let zeroth : x + 0 ≡ x = omega arith in
      let some = λ (j : ℕ) (low : j < 4). closed-some (byte (x + j)) (h.each j low) in
      let one = next-within x w (some 1 (omega arith)) in
      let two = next-within (x + 1) one (subst (λ (n : ℕ). IsSome (byte n)) (let e : x + 2 ≡ x + 1 + 1 = omega arith in e) (some 2 (omega arith))) in
      let three = next-within (x + 1 + 1) two (subst (λ (n : ℕ). IsSome (byte n)) (let e : x + 3 ≡ x + 1 + 1 + 1 = omega arith in e) (some 3 (omega arith))) in
      let at = x - i.first in
      let from = w.0 in
      let to = three.1 in
      let low = λ (j : ℕ) (less : j < 4). (let l : at + j < length i.values.now = omega (arith, from, to, less) in l) in
      let back = λ (j : ℕ). (let e : x + j ≡ i.first + (at + j) = omega (arith, from) in e) in
      let get = λ (j : ℕ) (less : j < 4). closed-at at j (low j less) (subst (λ (n : ℕ). IsSome (closed_byte (byte n))) (back j) (h.each j less)) in
      let a = get 0 (omega arith) in
      let b = get 1 (omega arith) in
      let c = get 2 (omega arith) in
      let d = get 3 (omega arith) in
      let found = key-to (drop at i.values.now) (drop at i.marks.now) a.0 b.0 c.0 d.0 (record { first = a.1; second = b.1; third = c.1; fourth = d.1 }) in
      let missing = none at (omega (arith, from, w.1)) in
      let wrong : None ≡ Some (number a.0 b.0 c.0 d.0) = sym missing ∙ found in
      cc

pub none-sought : (byte : ℕ → Option PatternByte) (is : List Interval) → AreIntervals byte is → All HasNone is → HasFour byte → ⊥
none-sought byte is are none h =
    let zeroth : h.x + 0 ≡ h.x = omega arith in
    let shown = are.every h.x (subst (λ (n : ℕ). IsSome (byte n)) zeroth (closed-some (byte (h.x + 0)) (h.each 0 (omega arith)))) in
    no-four byte shown.0 (are.each shown.0 shown.1) (All-contains HasNone is shown.0 none shown.1) h shown.2

-- ---- in a program

-- The window of a program in which the four bytes are, if a segment agrees at an address.
pub record IsSeen (program : List ℕ) (base address : ℕ) (r : Rare) : Type 0 where
  pub above : base ≤ address + r.offset
  pub inside : address + r.offset - base < length program
  pub window : front (drop (address + r.offset - base) program) ≡ Some r.key

module _ (byte : ℕ → Option PatternByte) (program : List ℕ) (base address : ℕ) (h : Agrees byte program base address) (i : Interval) (is : IsInterval byte i) (r : Rare) (at : ℕ) (rare : IsRareAt i r at) where
  abbrev there : ℕ
  there = address + r.offset

  seen-at : (j v : ℕ) → IsClosedAt (drop at i.values.now) (drop at i.marks.now) j v → program_byte program base (there + j) ≡ Some v
  seen-at j v c =
      let value : slice_get i.values.now (at + j) ≡ Some v = sym (get-drop at j i.values.now) ∙ c.value_is in
      let mark : slice_get i.marks.now (at + j) ≡ Some c.mark = sym (get-drop at j i.marks.now) ∙ c.mark_is in
      let low = slice_get_within i.values.now (at + j) v value in
      let known : byte (i.first + (at + j)) ≡ byte_with (Some v) (Some c.mark) = is.each (at + j) low ∙ ap₂ byte_with value mark in
      let closed : closed_byte (byte_with (Some v) (Some c.mark)) ≡ Some v = ap (λ (t : Bool). if t then None else Some v) c.closed in
      let to : address + (i.first + (at + j)) ≡ there + j = omega (arith, rare.offset) in
      sym (ap (program_byte program base) to) ∙ h.closed (i.first + (at + j)) v (ap closed_byte known ∙ closed)

  pub is-seen : IsSeen program base address r
  is-seen =
      let key = key-from (drop at i.values.now) (drop at i.marks.now) r.key rare.key in
      let zeroth : there + 0 ≡ there = omega arith in
      let first : program_byte program base there ≡ Some key.a = sym (ap (program_byte program base) zeroth) ∙ seen-at 0 key.a key.are.first in
      let above = below-base program base there key.a first in
      let got = λ (j v : ℕ) (c : IsClosedAt (drop at i.values.now) (drop at i.marks.now) j v). from-drop program base there j above ∙ seen-at j v c in
      let rest = drop (there - base) program in
      let start : there - base + 0 ≡ there - base = omega arith in
      let begun : slice_get program (there - base) ≡ Some key.a = sym (ap (slice_get program) start) ∙ sym (get-drop (there - base) 0 program) ∙ got 0 key.a key.are.first in
      record {
        above = above;
        inside = slice_get_within program (there - base) key.a begun;
        window = front-of rest key.a key.b key.c key.d (got 0 key.a key.are.first) (got 1 key.b key.are.second) (got 2 key.c key.are.third) (got 3 key.d key.are.fourth) ∙ ap Some (sym key.key_is);
      }

pub rare-seen : (byte : ℕ → Option PatternByte) (is : List Interval) → AreIntervals byte is → (program : List ℕ) (base address : ℕ) → Agrees byte program base address → (r : Rare) → IsRareOf is r → IsSeen program base address r
rare-seen byte is are program base address h r rare = is-seen byte program base address h rare.0 (are.each rare.0 rare.1) r rare.2.0 rare.2.1
