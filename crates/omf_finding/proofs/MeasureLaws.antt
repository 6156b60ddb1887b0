-- What is counted of a segment: its closed bytes, those that vary, and its extent.
use Rattle.std.proofs.Common.{◌≡◌, ◌⊎◌, inl, inr, ℕ, zero, suc, ◌+◌, ◌-◌, ◌<◌, ◌≤◌, ◌^◌, min, Bool, true, false, List, [], ◌∷◌, ◌++◌, length, take, filter, Option, Some, None, refl, sym, ap, ap₂, subst, ◌∙◌, arith}
use Rattle.std.specs.Prelude.{All, Contains, IsSome, IsNone, option_map, slice_get, filter_map, flat_map, option_to_list, ◌==◌, get_or, not, if◌then◌else◌}
use Rattle.std.specs.List.{range_with_len}
use Rattle.std.proofs.Math.Nat.{le-add_right, min-eq_left, min-eq_right}
use Rattle.std.proofs.lemmas.Bool.Decides.{leb_tells}
use Rattle.std.proofs.lemmas.List.{length-append}
use Rattle.std.proofs.lemmas.List.Elements.{filter-append}
use Rattle.std.proofs.lemmas.Option.{get_or_from_slice_get, slice_get_within}
use Rattle.omf_image.proofs.RunLaws.{contains_here, contains_more}
use Rattle.omf_finding.specs.Near.{AreClosed}
use Rattle.omf_finding.specs.Run.{closed_byte}
use Rattle.omf_finding.specs.Sure.{closed_before, is_fresh, is_value, varied}
use Rattle.omf_finding.specs.Inner.Measuring.{IsExtent, IsMeasured, before_at, closed_at, closed_in, closed_with, fresh_after, fresh_at, fresh_below, fresh_in}
use Rattle.omf_finding.specs.Inner.Shaping.{AreInOrder, AreIntervals, IsInterval, IsWhole}
use Rattle.omf_finding.specs.Inner.Walking.{byte_with}
use Rattle.omf_finding.specs.declared.closed.ClosedByte.{ClosedByte}
use Rattle.omf_finding.specs.declared.patterning.Interval.{Interval}
use Rattle.omf_finding.specs.declared.patterning.PatternByte.{PatternByte}
use Rattle.omf_finding.specs.declared.shapes.Shape.{Shape}
use Rattle.omf_finding.proofs.AgreesLaws.{at-index, closed-some, not-both}
use Rattle.omf_finding.proofs.ClosedLaws.{Rises, are-closed, closed-more, flat-more, range-more}

none-closed : (p : Option PatternByte) → (IsSome p → ⊥) → closed_byte p ≡ None
none-closed None h = refl
none-closed (Some b) h = absurd (h refl)

-- ---- closed bytes of an interval

pub mark-closed : (m : ℕ) (b : Bool) → b ≡ not (m == 1) → b ≡ true → (m == 1) ≡ false
mark-closed m b e f = by (m == 1) (sym e ∙ f)
  where
    by : (t : Bool) → not t ≡ true → t ≡ false
    by true h = absurd cc
    by false h = refl

pub mark-open : (m : ℕ) (b : Bool) → b ≡ not (m == 1) → b ≡ false → (m == 1) ≡ true
mark-open m b e f = by (m == 1) (sym e ∙ f)
  where
    by : (t : Bool) → not t ≡ false → t ≡ true
    by true h = refl
    by false h = absurd cc

pub closed-next : (i : Interval) (n v m count next : ℕ) → slice_get i.values.now n ≡ Some v → slice_get i.marks.now n ≡ Some m → (m == 1) ≡ false → count ≡ length (filter_map (closed_at i) (range_with_len 0 n)) → next ≡ count + 1
    → next ≡ length (filter_map (closed_at i) (range_with_len 0 (n + 1)))
closed-next i n v m count next e f g h k =
    let c : ClosedByte = record { offset = i.first + n; value = v } in
    let one : closed_at i n ≡ Some c = ap₂ (closed_with (i.first + n)) e f ∙ ap (λ (t : Bool). if t then None else Some c) g in
    let before = filter_map (closed_at i) (range_with_len 0 n) in
    let long : length (filter_map (closed_at i) (range_with_len 0 (n + 1))) ≡ length (before ++ c ∷ []) = ap length (closed-more i n ∙ ap (λ (o : Option ClosedByte). before ++ option_to_list o) one) in
    let more : length (before ++ c ∷ []) ≡ length before + 1 = length-append before (c ∷ []) in
    omega (arith, h, k, long, more)

pub closed-past : (i : Interval) (n v m count : ℕ) → slice_get i.values.now n ≡ Some v → slice_get i.marks.now n ≡ Some m → (m == 1) ≡ true → count ≡ length (filter_map (closed_at i) (range_with_len 0 n))
    → count ≡ length (filter_map (closed_at i) (range_with_len 0 (n + 1)))
closed-past i n v m count e f g h =
    let c : ClosedByte = record { offset = i.first + n; value = v } in
    let one : closed_at i n ≡ None = ap₂ (closed_with (i.first + n)) e f ∙ ap (λ (t : Bool). if t then None else Some c) g in
    let before = filter_map (closed_at i) (range_with_len 0 n) in
    let long : length (filter_map (closed_at i) (range_with_len 0 (n + 1))) ≡ length (before ++ []) = ap length (closed-more i n ∙ ap (λ (o : Option ClosedByte). before ++ option_to_list o) one) in
    let more : length (before ++ []) ≡ length before + 0 = length-append before [] in
    omega (arith, h, long, more)

-- ---- those that vary

fresh-more : (i : Interval) (n : ℕ) → fresh_below i (n + 1) ≡ fresh_below i n ++ (if fresh_at i n then n ∷ [] else [])
fresh-more i n = ap (filter (fresh_at i)) (range-more n) ∙ filter-append (fresh_at i) (range_with_len 0 n) (n ∷ [])

pub fresh-next : (i : Interval) (n count next : ℕ) → fresh_at i n ≡ true → count ≡ length (fresh_below i n) → next ≡ count + 1 → next ≡ length (fresh_below i (n + 1))
fresh-next i n count next e h k =
    let long : length (fresh_below i (n + 1)) ≡ length (fresh_below i n ++ n ∷ []) = ap length (fresh-more i n ∙ ap (λ (t : Bool). fresh_below i n ++ (if t then n ∷ [] else [])) e) in
    let more : length (fresh_below i n ++ n ∷ []) ≡ length (fresh_below i n) + 1 = length-append (fresh_below i n) (n ∷ []) in
    omega (arith, h, k, long, more)

pub fresh-past : (i : Interval) (n count : ℕ) → fresh_at i n ≡ false → count ≡ length (fresh_below i n) → count ≡ length (fresh_below i (n + 1))
fresh-past i n count e h =
    let long : length (fresh_below i (n + 1)) ≡ length (fresh_below i n ++ []) = ap length (fresh-more i n ∙ ap (λ (t : Bool). fresh_below i n ++ (if t then n ∷ [] else [])) e) in
    let more : length (fresh_below i n ++ []) ≡ length (fresh_below i n) + 0 = length-append (fresh_below i n) [] in
    omega (arith, h, long, more)

-- as the code tests it
pub fresh-none : (i : Interval) (at : ℕ) → None ≡ closed_at i at → false ≡ fresh_at i at
fresh-none i at e = sym (ap (fresh_after (before_at i at)) (sym e))

pub fresh-first : (i : Interval) (at : ℕ) (c : ClosedByte) → Some c ≡ closed_at i at → at ≡ 0 → true ≡ fresh_at i at
fresh-first i zero c e z = sym (ap (fresh_after None) (sym e))
fresh-first i (suc at) c e z = absurd (omega (arith, z))

pub fresh-by : (i : Interval) (at before : ℕ) (o : Option ClosedByte) (c : ClosedByte) → Some c ≡ closed_at i at → at ≡ before + 1 → o ≡ closed_at i before → fresh_after o (Some c) ≡ fresh_at i at
fresh-by i zero before o c e z f = absurd (omega (arith, z))
fresh-by i (suc at) before o c e z f = let same : before ≡ at = omega (arith, z) in ap₂ fresh_after (f ∙ ap (closed_at i) same) e

-- ---- sums that stay below the greatest number

saturated : (a b : ℕ) → min (min a (2 ^ 64 - 1) + b) (2 ^ 64 - 1) ≡ min (a + b) (2 ^ 64 - 1)
saturated a b = elim (leb_tells a (2 ^ 64 - 1)) [
  | inl t ↦ ap (λ (n : ℕ). min (n + b) (2 ^ 64 - 1)) (min-eq_left t.1)
  | inr t ↦
      let over = t.1 in
      let far : 2 ^ 64 - 1 ≤ a = omega (arith, over) in
      let both : 2 ^ 64 - 1 ≤ a + b = omega (arith, over) in
      ap (λ (n : ℕ). min (n + b) (2 ^ 64 - 1)) (min-eq_right far) ∙ min-eq_right (le-add_right (2 ^ 64 - 1) b) ∙ sym (min-eq_right both)
]

pub saturated-next : {X A : Type 0} (f : X → List A) (xs : List X) (k : ℕ) (x : X) (now more next : ℕ) → x ≡ get_or xs k x → k < length xs → now ≡ min (length (flat_map f (take k xs))) (2 ^ 64 - 1) → more ≡ length (f x) → next ≡ min (now + more) (2 ^ 64 - 1)
    → next ≡ min (length (flat_map f (take (k + 1) xs))) (2 ^ 64 - 1)
saturated-next {A = A} f xs k x now more next e low h g n =
    let before = flat_map f (take k xs) in
    let grown : flat_map f (take (k + 1) xs) ≡ before ++ f x = sym (flat-more f xs k x before (before ++ f x) e low refl refl) in
    n ∙ ap₂ (λ (a b : ℕ). min (a + b) (2 ^ 64 - 1)) h g ∙ saturated (length before) (length (f x)) ∙ ap (λ (a : ℕ). min a (2 ^ 64 - 1)) (sym (ap length grown ∙ length-append before (f x)))

pub slice-at : {X : Type 0} (xs : List X) (k : ℕ) (x : X) → k < length xs → get_or xs k x ≡ x → slice_get xs k ≡ Some x
slice-at [] k x low e = absurd (omega (arith, low))
slice-at (y ∷ ys) zero x low e = ap Some e
slice-at (y ∷ ys) (suc k) x low e = slice-at ys k x (omega (arith, low)) e

-- ---- closed bytes are at different offsets, below 2^32

rises-far : (cs : List ClosedByte) → Rises cs → (k : ℕ) (c : ClosedByte) → slice_get cs k ≡ Some c → k ≤ c.offset
rises-far cs h zero c e = omega arith
rises-far cs h (suc k) c e =
    let low = slice_get_within cs (suc k) c e in
    let before = at-index-of cs k (omega (arith, low)) in
    let less = h k (suc k) before.0 c (omega arith) before.1 e in
    let far = rises-far cs h k before.0 before.1 in
    omega (arith, less, far)
  where
    at-index-of : (xs : List ClosedByte) (k : ℕ) → k < length xs → (c : ClosedByte) × (slice_get xs k ≡ Some c)
    at-index-of [] k low = absurd (omega (arith, low))
    at-index-of (x ∷ xs) zero low = (x, refl)
    at-index-of (x ∷ xs) (suc k) low = at-index-of xs k (omega (arith, low))

last-of : (x : ClosedByte) (xs : List ClosedByte) → (c : ClosedByte) × (slice_get (x ∷ xs) (length xs) ≡ Some c)
last-of x [] = (x, refl)
last-of x (y ∷ xs) = last-of y xs

rises-short : (cs : List ClosedByte) (n : ℕ) → Rises cs → ((c : ClosedByte) → Contains cs c → c.offset < n) → length cs ≤ n
rises-short [] n h below = omega arith
rises-short (x ∷ xs) n h below =
    let cs = x ∷ xs in
    let last = last-of x xs in
    let far = rises-far cs h (length xs) last.0 last.1 in
    let low = slice_get_within cs (length xs) last.0 last.1 in
    let less = below last.0 (length xs, low, get_or_from_slice_get cs (length xs) last.0 last.0 last.1) in
    omega (arith, far, less)

module _ (byte : ℕ → Option PatternByte) (is : List Interval) (are : AreIntervals byte is) where
  closed : AreClosed byte (flat_map closed_in is)
  closed = are-closed byte is are

  -- a closed byte is in an interval
  below : (c : ClosedByte) → Contains (flat_map closed_in is) c → c.offset < 2 ^ 32
  below c k =
      let shown = are.every c.offset (closed-some (byte c.offset) (subst IsSome (sym (closed.each c k)) refl)) in
      let within = (are.each shown.0 shown.1).within in
      let to = shown.2.1 in
      omega (arith, within, to)

  pub count-exact : (count : ℕ) → count ≡ min (length (flat_map closed_in is)) (2 ^ 64 - 1) → count ≡ length (flat_map closed_in is)
  count-exact count e =
      let short = rises-short (flat_map closed_in is) (2 ^ 32) closed.rising below in
      e ∙ min-eq_left (omega (arith, short))

  -- ---- those that vary, of one interval

  module _ (i : Interval) (has : Contains is i) where
    own : IsInterval byte i
    own = are.each i has

    -- no byte is before the interval
    before-none : (x : ℕ) → i.first ≡ x + 1 → IsSome (byte x) → ⊥
    before-none x e some =
        let shown = are.every x some in
        let j = shown.0 in
        let from = shown.2.0 in
        let to = shown.2.1 in
        let nonempty = own.some in
        let first : IsSome (byte (i.first + 0)) = subst IsSome (sym (own.each 0 nonempty)) (some-with i.values.now i.marks.now 0 nonempty (omega (arith, nonempty, own.same))) in
        let starts : IsSome (byte i.first) = subst (λ (n : ℕ). IsSome (byte n)) (let z : i.first + 0 ≡ i.first = omega arith in z) first in
        elim (leb_tells (j.first + length j.values.now) i.first) [
          | inl t ↦
              let end : j.first + length j.values.now ≡ i.first = omega (arith, t.1, to, e) in
              not-both (byte i.first) starts (subst (λ (n : ℕ). IsNone (byte n)) end (are.each j shown.1).after)
          | inr t ↦ let past = t.1 in apart j shown.1 (omega (arith, past)) from to
        ]
      where
        some-with : (vs ms : List ℕ) (k : ℕ) → k < length vs → k < length ms → IsSome (byte_with (slice_get vs k) (slice_get ms k))
        some-with vs ms k low high =
            let v = at-index vs k low in
            let m = at-index ms k high in
            subst IsSome (sym (ap₂ byte_with v.1 m.1)) refl

        -- the interval that goes on past the first byte of the other one is that one, or begins after it
        apart : (j : Interval) (k : Contains is j) → i.first < j.first + length j.values.now → j.first ≤ x → x < j.first + length j.values.now → ⊥
        apart j k past from to =
            elim (leb_tells (has.0 + 1) k.0) [
              | inl t ↦
                  let order = are.ordered has.0 k.0 i j (omega (arith, t.1)) (slice-at is has.0 i has.1 has.2) (slice-at is k.0 j k.1 k.2) in
                  let some = own.some in
                  omega (arith, order, from, e, some)
              | inr t ↦ elim (leb_tells (k.0 + 1) has.0) [
                | inl u ↦
                    let order = are.ordered k.0 has.0 j i (omega (arith, u.1)) (slice-at is k.0 j k.1 k.2) (slice-at is has.0 i has.1 has.2) in
                    omega (arith, order, past)
                | inr u ↦
                    let one = t.1 in
                    let other = u.1 in
                    let same : has.0 ≡ k.0 = omega (arith, one, other) in
                    let is-one : Some i ≡ Some j = sym (slice-at is has.0 i has.1 has.2) ∙ ap (slice_get is) same ∙ slice-at is k.0 j k.1 k.2 in
                    let equal : i ≡ j = cc in
                    let firsts : i.first ≡ j.first = ap (λ (l : Interval). l.first) equal in
                    omega (arith, firsts, from, e)
              ]
            ]

    -- the closed byte before an index, as the segment has it
    before-is : (at : ℕ) → at < length i.values.now → closed_before byte (i.first + at) ≡ option_map (λ c. c.value) (before_at i at)
    before-is zero low = by i.first refl
      where
        by : (n : ℕ) → i.first ≡ n → closed_before byte (i.first + 0) ≡ None
        by zero e = ap (closed_before byte) (let z : i.first + 0 ≡ zero = omega (arith, e) in z)
        by (suc x) e =
            let z : i.first + 0 ≡ suc x = omega (arith, e) in
            ap (closed_before byte) z ∙ none-closed (byte x) (before-none x (omega (arith, e)))
    before-is (suc at) low =
        let z : i.first + suc at ≡ suc (i.first + at) = omega arith in
        let v = at-index i.values.now at (omega (arith, low)) in
        let m = at-index i.marks.now at (omega (arith, low, own.same)) in
        ap (closed_before byte) z ∙ ap closed_byte (own.each at (omega (arith, low))) ∙ ap₂ (λ (a b : Option ℕ). closed_byte (byte_with a b)) v.1 m.1
        ∙ value-of (i.first + at) v.0 m.0 ∙ sym (ap₂ (λ (a b : Option ℕ). option_map (λ c. c.value) (closed_with (i.first + at) a b)) v.1 m.1)
      where
        value-of : (offset v m : ℕ) → closed_byte (byte_with (Some v) (Some m)) ≡ option_map (λ c. c.value) (closed_with offset (Some v) (Some m))
        value-of offset v m = by (m == 1)
          where
            by : (t : Bool) → (if t then None else Some v) ≡ option_map (λ (c : ClosedByte). c.value) (if t then None else Some (let b : ClosedByte = record { offset = offset; value = v } in b))
            by true = refl
            by false = refl

    offset-is : (at : ℕ) (c : ClosedByte) → closed_at i at ≡ Some c → c.offset ≡ i.first + at
    offset-is at c e = by (slice_get i.values.now at) (slice_get i.marks.now at) e
      where
        by : (v m : Option ℕ) → closed_with (i.first + at) v m ≡ Some c → c.offset ≡ i.first + at
        by None m e = absurd cc
        by (Some v) None e = absurd cc
        by (Some v) (Some m) e = with-mark (m == 1) e
          where
            with-mark : (t : Bool) → (if t then None else Some (let b : ClosedByte = record { offset = i.first + at; value = v } in b)) ≡ Some c → c.offset ≡ i.first + at
            with-mark true e = absurd cc
            with-mark false e =
                let b : ClosedByte = record { offset = i.first + at; value = v } in
                let same : b ≡ c = cc in
                sym (ap (λ (d : ClosedByte). d.offset) same)

    fresh-is : (at : ℕ) → at < length i.values.now → (c : ClosedByte) → closed_at i at ≡ Some c → is_fresh byte c ≡ fresh_at i at
    fresh-is at low c e =
        ap (λ (o : Option ℕ). not (is_value o c.value)) (ap (closed_before byte) (offset-is at c e) ∙ before-is at low) ∙ by (before_at i at) ∙ sym (ap (fresh_after (before_at i at)) e)
      where
        by : (o : Option ClosedByte) → not (is_value (option_map (λ b. b.value) o) c.value) ≡ fresh_after o (Some c)
        by None = refl
        by (Some b) = refl

    -- as many indices as closed bytes
    vary-below : (n : ℕ) → n ≤ length i.values.now → length (filter (is_fresh byte) (filter_map (closed_at i) (range_with_len 0 n))) ≡ length (fresh_below i n)
    vary-below zero low = refl
    vary-below (suc n) low =
        let to : suc n ≡ n + 1 = omega arith in
        let before = filter_map (closed_at i) (range_with_len 0 n) in
        let again = vary-below n (omega (arith, low)) in
        let left : length (filter (is_fresh byte) (filter_map (closed_at i) (range_with_len 0 (suc n)))) ≡ length (filter (is_fresh byte) before) + length (filter (is_fresh byte) (option_to_list (closed_at i n))) =
        ap (λ (k : ℕ). length (filter (is_fresh byte) (filter_map (closed_at i) (range_with_len 0 k)))) to ∙ ap (λ (cs : List ClosedByte). length (filter (is_fresh byte) cs)) (closed-more i n)
        ∙ ap length (filter-append (is_fresh byte) before (option_to_list (closed_at i n))) ∙ length-append (filter (is_fresh byte) before) (filter (is_fresh byte) (option_to_list (closed_at i n))) in
        let right : length (fresh_below i (suc n)) ≡ length (fresh_below i n) + length (if fresh_at i n then n ∷ [] else []) = ap (λ (k : ℕ). length (fresh_below i k)) to ∙ ap length (fresh-more i n) ∙ length-append (fresh_below i n) (if fresh_at i n then n ∷ [] else []) in
        let one = by (closed_at i n) refl in
        omega (arith, left, right, again, one)
      where
        by : (o : Option ClosedByte) → closed_at i n ≡ o → length (filter (is_fresh byte) (option_to_list o)) ≡ length (if fresh_at i n then n ∷ [] else [])
        by None e = sym (ap (λ (t : Bool). length (if t then n ∷ [] else [])) (ap (fresh_after (before_at i n)) e))
        by (Some c) e = test (is_fresh byte c) (fresh_at i n) (fresh-is n (omega (arith, low)) c e)
          where
            test : (s t : Bool) → s ≡ t → length (if s then c ∷ [] else []) ≡ length (if t then n ∷ [] else [])
            test true true e = refl
            test false false e = refl
            test true false e = absurd cc
            test false true e = absurd cc

    pub vary-in : length (filter (is_fresh byte) (closed_in i)) ≡ length (fresh_in i)
    vary-in = vary-below (length i.values.now) (omega arith)

  vary-all : (js : List Interval) → ((i : Interval) → Contains js i → Contains is i) → length (filter (is_fresh byte) (flat_map closed_in js)) ≡ length (flat_map fresh_in js)
  vary-all [] h = refl
  vary-all (j ∷ js) h =
      let left : length (filter (is_fresh byte) (flat_map closed_in (j ∷ js))) ≡ length (filter (is_fresh byte) (closed_in j)) + length (filter (is_fresh byte) (flat_map closed_in js)) =
      ap length (filter-append (is_fresh byte) (closed_in j) (flat_map closed_in js)) ∙ length-append (filter (is_fresh byte) (closed_in j)) (filter (is_fresh byte) (flat_map closed_in js)) in
      let right : length (flat_map fresh_in (j ∷ js)) ≡ length (fresh_in j) + length (flat_map fresh_in js) = length-append (fresh_in j) (flat_map fresh_in js) in
      let one = vary-in j (h j (contains_here j js)) in
      let rest = vary-all js (λ i k. h i (contains_more i j js k)) in
      omega (arith, left, right, one, rest)

  filter-short : (cs : List ClosedByte) → length (filter (is_fresh byte) cs) ≤ length cs
  filter-short [] = omega arith
  filter-short (c ∷ cs) = by (is_fresh byte c) (filter-short cs)
    where
      by : (t : Bool) → length (filter (is_fresh byte) cs) ≤ length cs → length (if t then c ∷ filter (is_fresh byte) cs else filter (is_fresh byte) cs) ≤ length (c ∷ cs)
      by true h = omega (arith, h)
      by false h = omega (arith, h)

  pub vary-exact : (count : ℕ) → count ≡ min (length (flat_map fresh_in is)) (2 ^ 64 - 1) → count ≡ varied byte (flat_map closed_in is)
  vary-exact count e =
      let same = vary-all is (λ i k. k) in
      let short = rises-short (flat_map closed_in is) (2 ^ 32) closed.rising below in
      let fewer = filter-short (flat_map closed_in is) in
      e ∙ min-eq_left (omega (arith, short, fewer, same)) ∙ sym same

  pub measured : (s : Shape) → s.closed ≡ min (length (flat_map closed_in is)) (2 ^ 64 - 1) → (length s.places.items ≡ 1 → s.varied ≡ min (length (flat_map fresh_in is)) (2 ^ 64 - 1)) → IsExtent byte s.first s.end → IsMeasured byte s
  measured s e f g = record { bytes = flat_map closed_in is; are = closed; count = count-exact s.closed e; vary = λ one. vary-exact s.varied (f one); extent = g }

-- ---- extents

pub extent-none : (byte : ℕ → Option PatternByte) (is : List Interval) → AreIntervals byte is → is ≡ [] → (first : ℕ) → IsExtent byte first 0
extent-none byte is are e first = record {
  some = λ low. absurd (omega (arith, low));
  none = λ x some. absurd (let shown = are.every x some in let c = subst (λ (js : List Interval). Contains js shown.0) e shown.1 in omega (arith, c.1));
}

pub extent-some : (byte : ℕ → Option PatternByte) (is : List Interval) → AreIntervals byte is → (a b : Interval) → slice_get is 0 ≡ Some a → slice_get is (length is - 1) ≡ Some b → IsExtent byte a.first (b.first + length b.values.now)
extent-some byte is are a b e f =
    let low = slice_get_within is 0 a e in
    let high = slice_get_within is (length is - 1) b f in
    let one = are.each a (0, low, get_or_from_slice_get is 0 a a e) in
    let last = are.each b (length is - 1, high, get_or_from_slice_get is (length is - 1) b b f) in
    let starts = one.some in
    let ends = last.some in
    let order : a.first ≤ b.first = elim (leb_tells 2 (length is)) [
      | inl t ↦ let many = t.1 in let next = are.ordered 0 (length is - 1) a b (omega (arith, many)) e f in omega (arith, next, starts)
      | inr t ↦
          let few = t.1 in
          let zero-is : length is - 1 ≡ 0 = omega (arith, few, low) in
          let both : Some b ≡ Some a = sym f ∙ ap (slice_get is) zero-is ∙ e in
          let same : b ≡ a = cc in
          let firsts = ap (λ (i : Interval). i.first) same in
          omega (arith, firsts)
    ] in
    record {
      some = λ more. (
        omega (arith, order, ends),
        subst (λ (n : ℕ). IsSome (byte n)) (let z : a.first + 0 ≡ a.first = omega arith in z) (there a one 0 starts),
        subst (λ (n : ℕ). IsSome (byte n)) (let z : b.first + (length b.values.now - 1) ≡ b.first + length b.values.now - 1 = omega (arith, ends) in z) (there b last (length b.values.now - 1) (omega (arith, ends))),
      );
      none = λ x some. omega (arith, ends);
    }
  where
    there : (i : Interval) → IsInterval byte i → (k : ℕ) → k < length i.values.now → IsSome (byte (i.first + k))
    there i h k low =
        let v = at-index i.values.now k low in
        let m = at-index i.marks.now k (omega (arith, low, h.same)) in
        subst IsSome (sym (h.each k low ∙ ap₂ byte_with v.1 m.1)) refl
