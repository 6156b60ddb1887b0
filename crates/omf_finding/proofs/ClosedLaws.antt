-- The closed bytes of a segment, from its intervals.
use Rattle.std.proofs.Common.{◌≡◌, ◌⊎◌, inl, inr, ℕ, zero, suc, ◌+◌, ◌-◌, ◌<◌, ◌≤◌, Bool, true, false, List, [], ◌∷◌, ◌++◌, length, take, Option, Some, None, refl, sym, ap, ap₂, subst, ◌∙◌, arith}
use Rattle.std.specs.Prelude.{Contains, IsSome, slice_get, filter_map, flat_map, option_to_list, ◌==◌, get_or, if◌then◌else◌}
use Rattle.std.specs.List.{cons_option, range_with_len}
use Rattle.std.proofs.lemmas.List.{append-nil, append_assoc, take_more}
use Rattle.std.proofs.lemmas.Grind.{flat_map-append}
use Rattle.std.proofs.lemmas.List.Elements.{Contains-append_left, Contains-append_right, Contains-append_cases, filter_map-append}
use Rattle.std.proofs.lemmas.List.FromFn.{get_or-range_with_len, length-range_with_len}
use Rattle.std.proofs.lemmas.Option.{get_or_from_slice_get, slice_get_within}
use Rattle.omf_image.proofs.RunLaws.{contains_first, contains_here, contains_more}
use Rattle.omf_finding.specs.Near.{AreClosed}
use Rattle.omf_finding.specs.Run.{closed_byte}
use Rattle.omf_finding.specs.Inner.Measuring.{closed_at, closed_in, closed_with}
use Rattle.omf_finding.specs.Inner.Shaping.{AreInOrder, AreIntervals}
use Rattle.omf_finding.specs.Inner.Walking.{byte_with}
use Rattle.omf_finding.specs.declared.closed.ClosedByte.{ClosedByte}
use Rattle.omf_finding.specs.declared.patterning.Interval.{Interval}
use Rattle.omf_finding.specs.declared.patterning.PatternByte.{PatternByte}
use Rattle.omf_finding.proofs.AgreesLaws.{at-index, closed-some}

-- ---- lists

module _ {A B : Type 0} (h : A → Option B) where
  pub from-filter : (xs : List A) (y : B) → Contains (filter_map h xs) y → (x : A) × Contains xs x × (h x ≡ Some y)
  from-filter [] y c = absurd (omega (arith, c.1))
  from-filter (x ∷ xs) y c = by (h x) refl (λ d. let r = from-filter xs y d in (r.0, contains_more r.0 x xs r.1, r.2)) c
    where
      by : (o : Option B) → h x ≡ o → (Contains (filter_map h xs) y → (z : A) × Contains (x ∷ xs) z × (h z ≡ Some y)) → Contains (cons_option o (filter_map h xs)) y → (z : A) × Contains (x ∷ xs) z × (h z ≡ Some y)
      by None e again c = again c
      by (Some z) e again c = elim (contains_first y z (filter_map h xs) c) [ inl q ↦ (x, contains_here x xs, e ∙ ap Some (sym q)) | inr d ↦ again d ]

  pub to-filter : (xs : List A) (x : A) (y : B) → Contains xs x → h x ≡ Some y → Contains (filter_map h xs) y
  to-filter [] x y c e = absurd (omega (arith, c.1))
  to-filter (z ∷ xs) x y c e = elim (contains_first x z xs c) [
    | inl q ↦ subst (λ (o : Option B). Contains (cons_option o (filter_map h xs)) y) (sym (ap h (sym q) ∙ e)) (contains_here y (filter_map h xs))
    | inr d ↦ by (h z) (to-filter xs x y d e)
  ]
    where
      by : (o : Option B) → Contains (filter_map h xs) y → Contains (cons_option o (filter_map h xs)) y
      by None c = c
      by (Some w) c = contains_more y w (filter_map h xs) c

  pub filter-one : (x : A) → filter_map h (x ∷ []) ≡ option_to_list (h x)
  filter-one x = by (h x)
    where
      by : (o : Option B) → cons_option o [] ≡ option_to_list o
      by None = refl
      by (Some y) = refl

module _ {A B : Type 0} (f : A → List B) where
  pub from-flat : (xs : List A) (y : B) → Contains (flat_map f xs) y → (x : A) × Contains xs x × Contains (f x) y
  from-flat [] y c = absurd (omega (arith, c.1))
  from-flat (x ∷ xs) y c = elim (Contains-append_cases (f x) (flat_map f xs) y c) [
    | inl d ↦ (x, contains_here x xs, d)
    | inr d ↦ let r = from-flat xs y d in (r.0, contains_more r.0 x xs r.1, r.2)
  ]

  pub to-flat : (xs : List A) (x : A) (y : B) → Contains xs x → Contains (f x) y → Contains (flat_map f xs) y
  to-flat [] x y c d = absurd (omega (arith, c.1))
  to-flat (z ∷ xs) x y c d = elim (contains_first x z xs c) [
    | inl q ↦ Contains-append_left (f z) (flat_map f xs) y (subst (λ (w : A). Contains (f w) y) q d)
    | inr e ↦ Contains-append_right (f z) (flat_map f xs) y (to-flat xs x y e d)
  ]

range-suc : (a n : ℕ) → range_with_len a (suc n) ≡ range_with_len a n ++ (a + n) ∷ []
range-suc a zero = let e : a ≡ a + 0 = omega arith in ap (λ (x : ℕ). x ∷ []) e
range-suc a (suc n) = let e : a + 1 + n ≡ a + suc n = omega arith in ap (λ (xs : List ℕ). a ∷ xs) (range-suc (a + 1) n) ∙ ap (λ (x : ℕ). a ∷ (range_with_len (a + 1) n ++ x ∷ [])) e

pub range-more : (n : ℕ) → range_with_len 0 (n + 1) ≡ range_with_len 0 n ++ n ∷ []
range-more n = let e : n + 1 ≡ suc n = omega arith in let z : 0 + n ≡ n = omega arith in ap (range_with_len 0) e ∙ range-suc 0 n ∙ ap (λ (x : ℕ). range_with_len 0 n ++ x ∷ []) z

in-range : (n x : ℕ) → x < n → Contains (range_with_len 0 n) x
in-range n x low =
    let long = length-range_with_len 0 n in
    let e = get_or-range_with_len 0 n x x low in
    (x, omega (arith, low, long), e ∙ (let z : 0 + x ≡ x = omega arith in z))

from-range : (n x : ℕ) → Contains (range_with_len 0 n) x → x < n
from-range n x c =
    let long = length-range_with_len 0 n in
    let low = c.1 in
    let e = get_or-range_with_len 0 n c.0 x (omega (arith, low, long)) in
    let is = c.2 in
    omega (arith, e, is, low, long)

-- ---- one after another

abbrev pub Rises : List ClosedByte → Type 0
Rises cs = (i j : ℕ) (c d : ClosedByte) → i < j → slice_get cs i ≡ Some c → slice_get cs j ≡ Some d → c.offset < d.offset

abbrev IsIn : List ClosedByte → List ClosedByte → ℕ → ClosedByte → Type 0
IsIn xs ys n b = (slice_get xs n ≡ Some b) ⊎ ((length xs ≤ n) × (slice_get ys (n - length xs) ≡ Some b))

get-append : (xs ys : List ClosedByte) (i : ℕ) (c : ClosedByte) → slice_get (xs ++ ys) i ≡ Some c → IsIn xs ys i c
get-append [] ys i c e = let z : i ≡ i - 0 = omega arith in inr (omega arith, subst (λ (n : ℕ). slice_get ys n ≡ Some c) z e)
get-append (x ∷ xs) ys zero c e = inl e
get-append (x ∷ xs) ys (suc i) c e = elim (get-append xs ys i c e) [
  | inl f ↦ inl f
  | inr f ↦ let z : i - length xs ≡ suc i - length (x ∷ xs) = omega arith in let low = f.0 in inr (omega (arith, low), subst (λ (n : ℕ). slice_get ys n ≡ Some c) z f.1)
]

got : (xs : List ClosedByte) (i : ℕ) (c : ClosedByte) → slice_get xs i ≡ Some c → Contains xs c
got xs i c e = (i, slice_get_within xs i c e, get_or_from_slice_get xs i c c e)

rises-append : (xs ys : List ClosedByte) → Rises xs → Rises ys → ((c d : ClosedByte) → Contains xs c → Contains ys d → c.offset < d.offset) → Rises (xs ++ ys)
rises-append xs ys h k between i j c d less e f = by (get-append xs ys i c e) (get-append xs ys j d f)
  where
    by : IsIn xs ys i c → IsIn xs ys j d → c.offset < d.offset
    by (inl a) (inl b) = h i j c d less a b
    by (inl a) (inr b) = between c d (got xs i c a) (got ys (j - length xs) d b.1)
    by (inr a) (inl b) = let within = slice_get_within xs j d b in let from = a.0 in absurd (omega (arith, within, from, less))
    by (inr a) (inr b) = let from = a.0 in k (i - length xs) (j - length xs) c d (omega (arith, less, from)) a.1 b.1

rises-none : Rises []
rises-none i j c d less e f = absurd cc

-- ---- of an interval

closed-is : (offset : ℕ) (v m : Option ℕ) (c : ClosedByte) → closed_with offset v m ≡ Some c → (closed_byte (byte_with v m) ≡ Some c.value) × (c.offset ≡ offset)
closed-is offset None m c e = absurd cc
closed-is offset (Some v) None c e = absurd cc
closed-is offset (Some v) (Some m) c e = by (m == 1) refl e
  where
    by : (t : Bool) → (m == 1) ≡ t → (if t then None else Some (let b : ClosedByte = record { offset = offset; value = v } in b)) ≡ Some c → (closed_byte (byte_with (Some v) (Some m)) ≡ Some c.value) × (c.offset ≡ offset)
    by true q e = absurd cc
    by false q e =
        let b : ClosedByte = record { offset = offset; value = v } in
        let same : b ≡ c = cc in
        (ap (λ (t : Bool). if t then None else Some v) q ∙ ap (λ (d : ClosedByte). Some d.value) same, sym (ap (λ (d : ClosedByte). d.offset) same))

closed-of : (offset v m b : ℕ) → closed_byte (byte_with (Some v) (Some m)) ≡ Some b → closed_with offset (Some v) (Some m) ≡ Some (record { offset = offset; value = b })
closed-of offset v m b e = by (m == 1) refl e
  where
    by : (t : Bool) → (m == 1) ≡ t → (if t then None else Some v) ≡ Some b → closed_with offset (Some v) (Some m) ≡ Some (record { offset = offset; value = b })
    by true q e = absurd cc
    by false q e =
        let same : v ≡ b = cc in
        ap (λ (t : Bool). if t then None else Some (let c : ClosedByte = record { offset = offset; value = v } in c)) q ∙ ap (λ (w : ℕ). Some (let c : ClosedByte = record { offset = offset; value = w } in c)) same

-- An index at which an interval has this closed byte.
pub record IsAtIndex (i : Interval) (n : ℕ) (c : ClosedByte) : Type 0 where
  pub at : ℕ
  pub low : at < n
  pub is : closed_at i at ≡ Some c
  pub offset : c.offset ≡ i.first + at

indexed : (i : Interval) (n : ℕ) (c : ClosedByte) → Contains (filter_map (closed_at i) (range_with_len 0 n)) c → IsAtIndex i n c
indexed i n c k =
    let r = from-filter (closed_at i) (range_with_len 0 n) c k in
    record {
      at = r.0;
      low = from-range n r.0 r.1;
      is = r.2;
      offset = (closed-is (i.first + r.0) (slice_get i.values.now r.0) (slice_get i.marks.now r.0) c r.2).1;
    }

one-rises : (o : Option ClosedByte) → Rises (option_to_list o)
one-rises None i j c d less e f = absurd cc
one-rises (Some b) zero zero c d less e f = absurd (omega (arith, less))
one-rises (Some b) zero (suc j) c d less e f = absurd cc
one-rises (Some b) (suc i) j c d less e f = absurd cc

in-option : (o : Option ClosedByte) (d : ClosedByte) → Contains (option_to_list o) d → o ≡ Some d
in-option None d c = absurd (omega (arith, c.1))
in-option (Some b) d c = elim (contains_first d b [] c) [ inl q ↦ ap Some (sym q) | inr e ↦ absurd (omega (arith, e.1)) ]

-- the closed bytes of one more index
pub closed-more : (i : Interval) (n : ℕ) → filter_map (closed_at i) (range_with_len 0 (n + 1)) ≡ filter_map (closed_at i) (range_with_len 0 n) ++ option_to_list (closed_at i n)
closed-more i n =
    ap (filter_map (closed_at i)) (range-more n) ∙ filter_map-append (closed_at i) (range_with_len 0 n) (n ∷ [])
    ∙ ap (λ (cs : List ClosedByte). filter_map (closed_at i) (range_with_len 0 n) ++ cs) (filter-one (closed_at i) n)

in-rises : (i : Interval) (n : ℕ) → Rises (filter_map (closed_at i) (range_with_len 0 n))
in-rises i zero = rises-none
in-rises i (suc n) = subst Rises (sym (ap (λ (k : ℕ). filter_map (closed_at i) (range_with_len 0 k)) (let e : suc n ≡ n + 1 = omega arith in e) ∙ closed-more i n))
    (rises-append (filter_map (closed_at i) (range_with_len 0 n)) (option_to_list (closed_at i n)) (in-rises i n) (one-rises (closed_at i n)) (λ c d k l.
    let one = indexed i n c k in
    let other = (closed-is (i.first + n) (slice_get i.values.now n) (slice_get i.marks.now n) d (in-option (closed_at i n) d l)).1 in
    let low = one.low in
    let at = one.offset in
    omega (arith, low, at, other)))

-- ---- of a segment

in-order : (i : Interval) (is : List Interval) → AreInOrder (i ∷ is) → AreInOrder is
in-order i is h j k a b less e f = h (suc j) (suc k) a b (omega (arith, less)) e f

before-all : (i : Interval) (is : List Interval) → AreInOrder (i ∷ is) → (b : Interval) → Contains is b → i.first + length i.values.now ≤ b.first
before-all i is h b c = h 0 (suc c.0) i b (omega arith) refl (got-at is c.0 c.1 c.2)
  where
    got-at : (xs : List Interval) (k : ℕ) → k < length xs → get_or xs k b ≡ b → slice_get xs k ≡ Some b
    got-at [] k low e = absurd (omega (arith, low))
    got-at (x ∷ xs) zero low e = ap Some e
    got-at (x ∷ xs) (suc k) low e = got-at xs k (omega (arith, low)) e

all-rise : (is : List Interval) → AreInOrder is → Rises (flat_map closed_in is)
all-rise [] h = rises-none
all-rise (i ∷ is) h = rises-append (closed_in i) (flat_map closed_in is) (in-rises i (length i.values.now)) (all-rise is (in-order i is h)) (λ c d k l.
    let one = indexed i (length i.values.now) c k in
    let r = from-flat closed_in is d l in
    let other = indexed r.0 (length r.0.values.now) d r.2 in
    let order = before-all i is h r.0 r.1 in
    let low = one.low in
    let at = one.offset in
    let there = other.offset in
    omega (arith, order, low, at, there))

pub are-closed : (byte : ℕ → Option PatternByte) (is : List Interval) → AreIntervals byte is → AreClosed byte (flat_map closed_in is)
are-closed byte is are = record {
  each = λ c k.
      let r = from-flat closed_in is c k in
      let i = r.0 in
      let n = indexed i (length i.values.now) c r.2 in
      let known = (are.each i r.1).each n.at n.low in
      let own = closed-is (i.first + n.at) (slice_get i.values.now n.at) (slice_get i.marks.now n.at) c n.is in
      ap (λ (x : ℕ). closed_byte (byte x)) n.offset ∙ ap closed_byte known ∙ own.0;
  every = λ x b e.
      let shown = are.every x (closed-some (byte x) (subst IsSome (sym e) refl)) in
      let i = shown.0 in
      let from = shown.2.0 in
      let to = shown.2.1 in
      let at = x - i.first in
      let back : i.first + at ≡ x = omega (arith, from) in
      let low : at < length i.values.now = omega (arith, from, to) in
      let own = are.each i shown.1 in
      let long = own.same in
      let v = at-index i.values.now at low in
      let m = at-index i.marks.now at (omega (arith, low, long)) in
      let known : byte (i.first + at) ≡ byte_with (Some v.0) (Some m.0) = own.each at low ∙ ap₂ byte_with v.1 m.1 in
      let closed : closed_byte (byte_with (Some v.0) (Some m.0)) ≡ Some b = sym (ap closed_byte known) ∙ ap (λ (n : ℕ). closed_byte (byte n)) back ∙ e in
      let is-at = ap₂ (closed_with (i.first + at)) v.1 m.1 ∙ closed-of (i.first + at) v.0 m.0 b closed ∙ ap (λ (n : ℕ). Some (let c : ClosedByte = record { offset = n; value = b } in c)) back in
      to-flat closed_in is i (record { offset = x; value = b }) shown.1 (to-filter (closed_at i) (range_with_len 0 (length i.values.now)) at (record { offset = x; value = b }) (in-range (length i.values.now) at low) is-at);
  rising = all-rise is are.ordered;
}

-- ---- one after another, as they are appended

pub pushed-more : (i : Interval) (n : ℕ) (old now new : List ClosedByte) (o : Option ClosedByte) → now ≡ old ++ filter_map (closed_at i) (range_with_len 0 n) → o ≡ closed_at i n → new ≡ now ++ option_to_list o
    → new ≡ old ++ filter_map (closed_at i) (range_with_len 0 (n + 1))
pushed-more i n old now new o e f q =
    let before = filter_map (closed_at i) (range_with_len 0 n) in
    q ∙ ap (λ (xs : List ClosedByte). xs ++ option_to_list o) e ∙ append_assoc old before (option_to_list o)
    ∙ ap (λ (xs : List ClosedByte). old ++ xs) (ap (λ (p : Option ClosedByte). before ++ option_to_list p) f ∙ sym (closed-more i n))

pub pushed-all : (i : Interval) (n : ℕ) (old now : List ClosedByte) → n ≡ length i.values.now → now ≡ old ++ filter_map (closed_at i) (range_with_len 0 n) → now ≡ old ++ closed_in i
pushed-all i n old now e h = h ∙ ap (λ (k : ℕ). old ++ filter_map (closed_at i) (range_with_len 0 k)) e

pub flat-more : {A B : Type 0} (f : A → List B) (xs : List A) (k : ℕ) (x : A) (now new : List B) → x ≡ get_or xs k x → k < length xs → now ≡ flat_map f (take k xs) → new ≡ now ++ f x → new ≡ flat_map f (take (k + 1) xs)
flat-more {A = A} {B = B} f xs k x now new e low h q =
    let one : f x ≡ flat_map f (x ∷ []) = sym (append-nil (f x)) in
    q ∙ ap (λ (ys : List B). ys ++ f x) h ∙ ap (λ (ys : List B). flat_map f (take k xs) ++ ys) one ∙ sym (flat_map-append f (take k xs) (x ∷ []))
    ∙ ap (λ (y : A). flat_map f (take k xs ++ y ∷ [])) e ∙ sym (ap (flat_map f) (take_more xs k x low))
