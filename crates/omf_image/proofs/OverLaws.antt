-- A piece laid over the runs that it touches.
use Rattle.std.proofs.Common.{◌≡◌, ◌⊎◌, inl, inr, ℕ, zero, suc, ◌+◌, ◌-◌, ◌<◌, ◌≤◌, Bool, true, false, List, [], ◌∷◌, ◌++◌, length, take, drop, Option, Some, None, refl, sym, ◌∙◌, ap, subst, arith, get_or, length-append, length-drop, append_assoc}
use Rattle.std.specs.Prelude.{IsSome, Result, Ok, Err, OnOk, OnErr, slice_get, slice_range, min, max, nat_le, ◌==◌, ◌&&◌, if◌then◌else◌}
use Rattle.std.specs.List.{remove_range}
use Rattle.std.proofs.Math.ListN.{set}
use Rattle.std.specs.Option.{option_or}
use Rattle.std.proofs.Math.Nat.{min-eq_left}
use Rattle.std.proofs.lemmas.Bool.{eqb-true, eq-eqb, le-leb}
use Rattle.std.proofs.lemmas.Bool.Decides.{leb_tells}
use Rattle.std.proofs.lemmas.List.{append-nil, length-take, take_all, drop_all, take-append-le, drop-drop, take-append-drop, drop_at, take_at, drop-map, take-map, drop_more, take_more_set, drop-set-lt, map-append, map-set, get_or-map, set-get_or}
use Rattle.omf_image.specs.declared.image.Covered.{Covered}
use Rattle.omf_image.specs.Overlay.{Laid, byte_of, byte_at, IsCovered}
use Rattle.omf_image.specs.Inner.Sorted.{laid_run, laid_runs, line_place, low, high, AreSorted, EndBefore, EndFrom, BeginBy, BeginAfter, Touches, IsTouched, IsPartOf, extended, over, over_all}
use Rattle.omf_image.proofs.RunLaws.{within_some, byte_some}
use Rattle.omf_image.proofs.SortedLaws.{some_is, sorted_from, sorted_drop, byte_first, byte_append, covered_place, none_low, none_high, none_before, no_byte, option_or-none, option_or-some, option_or-assoc}

-- ---- bytes written over others

pub overwritten : (old new : List ℕ) (at n : ℕ) → at ≤ length old → n ≡ min (length new) (length old - at)
    → take at (old ++ drop n new) ++ (take n new ++ drop n (drop at (old ++ drop n new))) ≡ take at old ++ (new ++ drop (at + length new) old)
overwritten old new at n inside e = elim (leb_tells (length new) (length old - at)) [
  | inl t ↦
      let same : n ≡ length new = omega (arith, e, t.1) in
      let none : drop n new ≡ [] = drop_all n new (omega (arith, same)) in
      ap (λ z. take at (old ++ z) ++ (take n new ++ drop n (drop at (old ++ z)))) none
      ∙ ap (λ z. take at z ++ (take n new ++ drop n (drop at z))) (append-nil old)
      ∙ ap (λ z. take at old ++ (z ++ drop n (drop at old))) (take_all n new (omega (arith, same)))
      ∙ ap (λ z. take at old ++ (new ++ z)) (drop-drop n at old ∙ ap (λ k. drop (at + k) old) same)
  | inr t ↦
      let whole : at + n ≡ length old = omega (arith, e, t.1, inside) in
      ap (λ z. z ++ (take n new ++ drop n (drop at (old ++ drop n new)))) (take-append-le at old (drop n new) inside)
      ∙ ap (λ z. take at old ++ (take n new ++ z)) (drop-drop n at (old ++ drop n new) ∙ drop_at old (drop n new) (at + n) (sym whole))
      ∙ ap (λ z. take at old ++ z) (take-append-drop n new ∙ sym (append-nil new) ∙ ap (λ z. new ++ z) (sym (drop_all (at + length new) old (omega (arith, t.1)))))
]

-- the same, as a vector's items after the write
pub overwritten_items : (old new : List ℕ) (at n k len : ℕ) (d f items : List ℕ) → at ≤ length old → n ≡ min (length new) (length old - at) → k ≡ n → items ≡ old ++ drop n new → d ≡ items
    → f ≡ take n new → len ≡ length items
    → take len ((take at d ++ (f ++ drop k (drop at d))) ++ drop (length (take at d ++ (f ++ drop k (drop at d)))) items) ≡ take at old ++ (new ++ drop (at + length new) old)
overwritten_items old new at n k len d f items inside e ek ei ed ef el =
    let z : List ℕ = take at d ++ (f ++ drop k (drop at d)) in
    let is : z ≡ take at old ++ (new ++ drop (at + length new) old) =
    ap (λ x. take at x ++ (f ++ drop k (drop at x))) (ed ∙ ei)
    ∙ ap (λ x. take at (old ++ drop n new) ++ (x ++ drop k (drop at (old ++ drop n new)))) ef
    ∙ ap (λ x. take at (old ++ drop n new) ++ (take n new ++ drop x (drop at (old ++ drop n new)))) ek
    ∙ overwritten old new at n inside e in
    let one : length z ≡ min at (length old) + (length new + (length old - (at + length new))) =
    ap (λ (x : List ℕ). length x) is ∙ length-append (take at old) (new ++ drop (at + length new) old)
    ∙ ap (λ x. x + length (new ++ drop (at + length new) old)) (length-take at old)
    ∙ ap (λ x. min at (length old) + x) (length-append new (drop (at + length new) old) ∙ ap (λ x. length new + x) (length-drop (at + length new) old)) in
    let two : length items ≡ length old + (length new - n) = ap (λ (x : List ℕ). length x) ei ∙ length-append old (drop n new) ∙ ap (λ x. length old + x) (length-drop n new) in
    take_at z (drop (length z) items) len (omega (arith, one, two, inside, e, el)) ∙ is

-- ---- their ends

max_cases : (a b : ℕ) → ((a ≤ b) × (max a b ≡ b)) ⊎ ((b ≤ a) × (max a b ≡ a))
max_cases a b = elim (leb_tells a b) [ inl t ↦ inl (t.1, omega (arith, t.1)) | inr t ↦ inr (omega (arith, t.1), omega (arith, t.1)) ]

length_over : (p r : Laid) → length (over p r).bytes ≡ min (p.offset - r.offset) (length r.bytes) + (length p.bytes + (length r.bytes - (p.offset + length p.bytes - r.offset)))
length_over p r =
    let rest = drop (p.offset + length p.bytes - r.offset) r.bytes in
    length-append (take (p.offset - r.offset) r.bytes) (p.bytes ++ rest)
    ∙ ap (λ n. n + length (p.bytes ++ rest)) (length-take (p.offset - r.offset) r.bytes)
    ∙ ap (λ n. min (p.offset - r.offset) (length r.bytes) + n) (length-append p.bytes rest ∙ ap (λ n. length p.bytes + n) (length-drop (p.offset + length p.bytes - r.offset) r.bytes))

pub end_over : (p r : Laid) → r.offset ≤ p.offset + length p.bytes → p.offset ≤ r.offset + length r.bytes
    → (over p r).offset + length (over p r).bytes ≡ max (p.offset + length p.bytes) (r.offset + length r.bytes)
end_over p r h k = ap (λ n. min p.offset r.offset + n) (length_over p r) ∙ omega (arith, h, k)

-- the runs together reach as far as the piece
pub all_within : (p : Laid) (ts : List Laid) → Touches p ts
    → ((over_all p ts).segment ≡ p.segment) × ((over_all p ts).offset ≤ p.offset) × (p.offset + length p.bytes ≤ (over_all p ts).offset + length (over_all p ts).bytes)
all_within p [] h = (refl, omega arith, omega arith)
all_within p (t ∷ ts) (same, h, k, others) =
    let q : Laid = over_all p ts in
    let w = all_within p ts others in
    let e = end_over q t (omega (arith, w.2, h)) (omega (arith, w.1, k)) in
    (w.0, omega (arith, w.1), omega (arith, e, w.2))

-- ---- the runs stay sorted

after_by : (m at : ℕ) (back : List Laid) → BeginAfter at back → AreSorted m back → AreSorted (at + 1) back
after_by m at [] b h = tt
after_by m at (l ∷ back) (b, bs) (from, some, fits, others) = (omega (arith, b), some, fits, others)

sorted_back : (m : ℕ) (ts back : List Laid) → AreSorted m (ts ++ back) → AreSorted m back
sorted_back m [] back h = h
sorted_back m (t ∷ ts) back (from, some, fits, others) = sorted_from m (high t + 1) back (omega (arith, from)) (sorted_back (high t + 1) ts back others)

sorted_over : (m : ℕ) (p r : Laid) (back : List Laid) → r.segment ≡ p.segment → r.offset ≤ p.offset + length p.bytes → p.offset ≤ r.offset + length r.bytes → m ≤ low r
    → r.offset + length r.bytes ≤ 4294967296 → AreSorted (high r + 1) back → AreSorted m (p ∷ back) → AreSorted m (over p r ∷ back)
sorted_over m p r back same h k le fits behind (from, some, fits_p, others) =
    let e = end_over p r h k in
    elim (max_cases (p.offset + length p.bytes) (r.offset + length r.bytes)) [
      | inl t ↦ (omega (arith, le, from, same), omega (arith, e, t, some), omega (arith, e, t, fits), sorted_from (high (over p r) + 1) (high r + 1) back (omega (arith, e, t, same)) behind)
      | inr t ↦ (omega (arith, le, from, same), omega (arith, e, t, some), omega (arith, e, t, fits_p), sorted_from (high (over p r) + 1) (high p + 1) back (omega (arith, e, t, same)) others)
    ]

pub sorted_all : (m : ℕ) (p : Laid) (ts back : List Laid) → m ≤ low p → 0 < length p.bytes → p.offset + length p.bytes ≤ 4294967296 → Touches p ts → BeginAfter (high p) back
    → AreSorted m (ts ++ back) → AreSorted m (over_all p ts ∷ back)
sorted_all m p [] back le some fits touch b h = (le, some, fits, after_by m (high p) back b h)
sorted_all m p (t ∷ ts) back le some fits (same, h, k, touch) b (from, some_t, fits_t, others) =
    let w = all_within p ts touch in
    let again = sorted_all m p ts back le some fits touch b (sorted_from m (high t + 1) (ts ++ back) (omega (arith, from)) others) in
    sorted_over m (over_all p ts) t back (same ∙ sym w.0) (omega (arith, w.2, h)) (omega (arith, w.1, k)) from fits_t (sorted_back (high t + 1) ts back others) again

pub sorted_joined : (m : ℕ) (p : Laid) (front ts back : List Laid) → m ≤ low p → 0 < length p.bytes → p.offset + length p.bytes ≤ 4294967296 → EndBefore (low p) front → Touches p ts
    → BeginAfter (high p) back → AreSorted m (front ++ (ts ++ back)) → AreSorted m (front ++ over_all p ts ∷ back)
sorted_joined m p [] ts back le some fits e touch b h = sorted_all m p ts back le some fits touch b h
sorted_joined m p (f ∷ front) ts back le some fits (e, es) touch b (from, some_f, fits_f, others) =
    (from, some_f, fits_f, sorted_joined (high f + 1) p front ts back (omega (arith, e)) some fits es touch b others)

-- ---- their bytes

get_left : {A : Type 0} (xs ys : List A) (i : ℕ) → i < length xs → slice_get (xs ++ ys) i ≡ slice_get xs i
get_left [] ys i lt = absurd (omega (arith, lt))
get_left (x ∷ xs) ys zero lt = refl
get_left (x ∷ xs) ys (suc i) lt = get_left xs ys i (omega (arith, lt))

get_right : {A : Type 0} (xs ys : List A) (i n : ℕ) → length xs + i ≡ n → slice_get (xs ++ ys) n ≡ slice_get ys i
get_right [] ys i n e = let same : n ≡ i = omega (arith, e) in ap (λ k. slice_get ys k) same
get_right (x ∷ xs) ys i zero e = absurd (omega (arith, e))
get_right (x ∷ xs) ys i (suc n) e = get_right xs ys i n (omega (arith, e))

get_take : {A : Type 0} (n : ℕ) (xs : List A) (i : ℕ) → i < n → slice_get (take n xs) i ≡ slice_get xs i
get_take zero xs i lt = absurd (omega (arith, lt))
get_take (suc n) [] i lt = refl
get_take (suc n) (x ∷ xs) zero lt = refl
get_take (suc n) (x ∷ xs) (suc i) lt = get_take n xs i (omega (arith, lt))

get_drop : {A : Type 0} (d : ℕ) (xs : List A) (i n : ℕ) → d + i ≡ n → slice_get (drop d xs) i ≡ slice_get xs n
get_drop zero xs i n e = let same : i ≡ n = omega (arith, e) in ap (λ k. slice_get xs k) same
get_drop (suc d) [] i n e = refl
get_drop (suc d) (x ∷ xs) i zero e = absurd (omega (arith, e))
get_drop (suc d) (x ∷ xs) i (suc n) e = get_drop d xs i n (omega (arith, e))

byte_in : (segment x : ℕ) (l : Laid) → l.segment ≡ segment → l.offset ≤ x → byte_of segment x l ≡ slice_get l.bytes (x - l.offset)
byte_in segment x l e from =
    ap (λ b. if b && nat_le l.offset x then slice_get l.bytes (x - l.offset) else None) (eq-eqb l.segment segment e)
    ∙ ap (λ b. if b then slice_get l.bytes (x - l.offset) else None) (le-leb l.offset x from)

byte_under : (segment x : ℕ) (l : Laid) → x < l.offset → byte_of segment x l ≡ None
byte_under segment x l lt = no_byte (byte_of segment x l) (λ h. let i = byte_some segment x l h in omega (arith, lt, i.1))

byte_past : (segment x : ℕ) (l : Laid) → l.offset + length l.bytes ≤ x → byte_of segment x l ≡ None
byte_past segment x l le = no_byte (byte_of segment x l) (λ h. let i = byte_some segment x l h in omega (arith, le, i.1))

byte_other : (segment x : ℕ) (l : Laid) → (l.segment ≡ segment → ⊥) → byte_of segment x l ≡ None
byte_other segment x l ne = no_byte (byte_of segment x l) (λ h. ne (byte_some segment x l h).0)

module _ (segment x : ℕ) (p r : Laid) (h : r.offset ≤ p.offset + length p.bytes) (k : p.offset ≤ r.offset + length r.bytes) where
  over_front : p.segment ≡ segment → r.segment ≡ segment → x < p.offset → r.offset ≤ x → byte_of segment x (over p r) ≡ byte_of segment x r
  over_front sp sr lt le =
      let rest = p.bytes ++ drop (p.offset + length p.bytes - r.offset) r.bytes in
      let first : min p.offset r.offset ≡ r.offset = omega (arith, lt, le) in
      let size = length-take (p.offset - r.offset) r.bytes in
      byte_in segment x (over p r) sp (omega (arith, first, le))
      ∙ ap (λ n. slice_get (over p r).bytes (x - n)) first
      ∙ get_left (take (p.offset - r.offset) r.bytes) rest (x - r.offset) (omega (arith, size, lt, le, k))
      ∙ get_take (p.offset - r.offset) r.bytes (x - r.offset) (omega (arith, lt, le))
      ∙ sym (byte_in segment x r sr le)

  over_middle : p.segment ≡ segment → p.offset ≤ x → x < p.offset + length p.bytes → byte_of segment x (over p r) ≡ byte_of segment x p
  over_middle sp from to =
      let size = length-take (p.offset - r.offset) r.bytes in
      byte_in segment x (over p r) sp (omega (arith, from))
      ∙ get_right (take (p.offset - r.offset) r.bytes) (p.bytes ++ drop (p.offset + length p.bytes - r.offset) r.bytes) (x - p.offset) (x - min p.offset r.offset) (omega (arith, size, from, k))
      ∙ get_left p.bytes (drop (p.offset + length p.bytes - r.offset) r.bytes) (x - p.offset) (omega (arith, from, to))
      ∙ sym (byte_in segment x p sp from)

  over_back : p.segment ≡ segment → r.segment ≡ segment → p.offset + length p.bytes ≤ x → byte_of segment x (over p r) ≡ byte_of segment x r
  over_back sp sr le =
      let size = length-take (p.offset - r.offset) r.bytes in
      byte_in segment x (over p r) sp (omega (arith, le))
      ∙ get_right (take (p.offset - r.offset) r.bytes) (p.bytes ++ drop (p.offset + length p.bytes - r.offset) r.bytes) (x - p.offset) (x - min p.offset r.offset) (omega (arith, size, le, k))
      ∙ get_right p.bytes (drop (p.offset + length p.bytes - r.offset) r.bytes) (x - (p.offset + length p.bytes)) (x - p.offset) (omega (arith, le))
      ∙ get_drop (p.offset + length p.bytes - r.offset) r.bytes (x - (p.offset + length p.bytes)) (x - r.offset) (omega (arith, le, h))
      ∙ sym (byte_in segment x r sr (omega (arith, le, h)))

  over_mine : p.segment ≡ segment → r.segment ≡ segment → byte_of segment x (over p r) ≡ option_or (byte_of segment x p) (byte_of segment x r)
  over_mine sp sr = elim (leb_tells p.offset x) [
    | inr t ↦ elim (leb_tells r.offset x) [
      | inl u ↦ over_front sp sr t.1 u.1 ∙ ap (λ o. option_or o (byte_of segment x r)) (sym (byte_under segment x p t.1))
      | inr u ↦ byte_under segment x (over p r) (omega (arith, t.1, u.1)) ∙ sym (byte_under segment x r u.1) ∙ ap (λ o. option_or o (byte_of segment x r)) (sym (byte_under segment x p t.1))
    ]
    | inl t ↦ elim (leb_tells (suc x) (p.offset + length p.bytes)) [
      | inl u ↦
          let some : IsSome (byte_of segment x p) = subst IsSome (sym (byte_in segment x p sp t.1)) (within_some p.bytes (x - p.offset) (omega (arith, t.1, u.1))) in
          over_middle sp t.1 (omega (arith, u.1)) ∙ sym (option_or-some (byte_of segment x p) (byte_of segment x r) some)
      | inr u ↦ over_back sp sr (omega (arith, u.1)) ∙ ap (λ o. option_or o (byte_of segment x r)) (sym (byte_past segment x p (omega (arith, u.1))))
    ]
  ]

  pub byte_over : r.segment ≡ p.segment → byte_of segment x (over p r) ≡ option_or (byte_of segment x p) (byte_of segment x r)
  byte_over same = by (p.segment == segment) refl
    where
      by : (b : Bool) → p.segment == segment ≡ b → byte_of segment x (over p r) ≡ option_or (byte_of segment x p) (byte_of segment x r)
      by true e = over_mine (eqb-true p.segment segment e) (same ∙ eqb-true p.segment segment e)
      by false e =
          let ne : p.segment ≡ segment → ⊥ = λ q. let t = eq-eqb p.segment segment q in cc in
          byte_other segment x (over p r) ne ∙ sym (byte_other segment x r (λ q. ne (sym same ∙ q))) ∙ ap (λ o. option_or o (byte_of segment x r)) (sym (byte_other segment x p ne))

pub byte_all : (segment x : ℕ) (p : Laid) (ts : List Laid) → Touches p ts → byte_of segment x (over_all p ts) ≡ option_or (byte_of segment x p) (byte_at ts segment x)
byte_all segment x p [] h = sym (option_or-none (byte_of segment x p))
byte_all segment x p (t ∷ ts) (same, h, k, others) =
    let w = all_within p ts others in
    byte_over segment x (over_all p ts) t (omega (arith, w.2, h)) (omega (arith, w.1, k)) (same ∙ sym w.0)
    ∙ ap (λ o. option_or o (byte_of segment x t)) (byte_all segment x p ts others)
    ∙ option_or-assoc (byte_of segment x p) (byte_at ts segment x) (byte_of segment x t)
    ∙ ap (λ o. option_or (byte_of segment x p) o) (sym (byte_first t ts segment x))

none_behind : (at : ℕ) (back : List Laid) (segment x : ℕ) → BeginAfter at back → line_place segment x ≤ at → byte_at back segment x ≡ None
none_behind at [] segment x b le = refl
none_behind at (l ∷ back) segment x (b, bs) le =
    byte_first l back segment x ∙ ap (λ o. option_or o (byte_of segment x l)) (none_behind at back segment x bs le) ∙ none_low segment x l (omega (arith, b, le))

shuffled : {A : Type 0} (b p t f : Option A) → (IsSome p → b ≡ None) → option_or (option_or b (option_or p t)) f ≡ option_or p (option_or (option_or b t) f)
shuffled b None t f h = refl
shuffled b (Some x) t f h = ap (λ o. option_or (option_or o (Some x)) f) (h refl)

pub byte_joined : (segment x : ℕ) (p : Laid) (front ts back : List Laid) → Touches p ts → BeginAfter (high p) back
    → byte_at (front ++ over_all p ts ∷ back) segment x ≡ option_or (byte_of segment x p) (byte_at (front ++ (ts ++ back)) segment x)
byte_joined segment x p front ts back touch b =
    let fs : Option ℕ = byte_at front segment x in
    let bs : Option ℕ = byte_at back segment x in
    let tops : Option ℕ = byte_of segment x p in
    byte_append front (over_all p ts ∷ back) segment x
    ∙ ap (λ o. option_or o fs) (byte_first (over_all p ts) back segment x ∙ ap (λ o. option_or bs o) (byte_all segment x p ts touch))
    ∙ shuffled bs tops (byte_at ts segment x) fs (λ s. none_behind (high p) back segment x b (omega (arith, covered_place segment x p s)))
    ∙ ap (λ o. option_or tops (option_or o fs)) (sym (byte_append ts back segment x))
    ∙ ap (λ o. option_or tops o) (sym (byte_append front (ts ++ back) segment x))

-- ---- which runs a piece touches

pub touching : (m : ℕ) (p : Laid) (ts back : List Laid) → p.offset + length p.bytes ≤ 4294967296 → AreSorted m (ts ++ back) → EndFrom (low p) ts → BeginBy (high p) ts → Touches p ts
touching m p [] back fits h e b = tt
touching m p (t ∷ ts) back fits (from, some, fits_t, others) (e, es) (b, bs) =
    let same : t.segment ≡ p.segment = elim (leb_tells (suc t.segment) p.segment) [
      | inl u ↦ absurd (omega (arith, u.1, e, fits_t))
      | inr u ↦ elim (leb_tells (suc p.segment) t.segment) [ inl v ↦ absurd (omega (arith, v.1, b, fits)) | inr v ↦ omega (arith, u.1, v.1) ]
    ] in
    (same, omega (arith, same, b), omega (arith, same, e), touching (high t + 1) p ts back fits others es bs)

-- ---- the last of them is enough

pub extended_over : (p r : Laid) → p.offset ≤ r.offset → over p r ≡ extended p r
extended_over p r le =
    let none : p.offset - r.offset ≡ 0 = omega (arith, le) in
    let rest = p.bytes ++ drop (p.offset + length p.bytes - r.offset) r.bytes in
    ap (λ n. record { segment = p.segment; offset = n; bytes = take (p.offset - r.offset) r.bytes ++ rest }) (min-eq_left le)
    ∙ ap (λ n. record { segment = p.segment; offset = p.offset; bytes = take n r.bytes ++ rest }) none

length_extended : (p r : Laid) → length (extended p r).bytes ≡ length p.bytes + (length r.bytes - (p.offset + length p.bytes - r.offset))
length_extended p r = length-append p.bytes (drop (p.offset + length p.bytes - r.offset) r.bytes) ∙ ap (λ n. length p.bytes + n) (length-drop (p.offset + length p.bytes - r.offset) r.bytes)

covered_over : (p r : Laid) → p.offset ≤ r.offset → r.offset + length r.bytes ≤ p.offset + length p.bytes → over p r ≡ p
covered_over p r le end =
    extended_over p r le
    ∙ ap (λ z. record { segment = p.segment; offset = p.offset; bytes = p.bytes ++ z }) (drop_all (p.offset + length p.bytes - r.offset) r.bytes (omega (arith, le, end)))
    ∙ ap (λ z. record { segment = p.segment; offset = p.offset; bytes = z }) (append-nil p.bytes)

-- laid over the last of the runs, a piece covers the others
pub all_last : (m k : ℕ) (p : Laid) (ts : List Laid) (l : Laid) → low p ≤ m → AreSorted m ts → Touches p ts → slice_get ts k ≡ Some l → length ts ≡ suc k → over_all p ts ≡ extended p l
all_last m k p [] l le h touch e n = absurd cc
all_last m zero p (t ∷ []) l le (from, some, fits, others) (same, h, k, touch) e n = extended_over p t (omega (arith, le, from, same)) ∙ ap (extended p) (some_is t l e)
all_last m (suc k) p (t ∷ []) l le h touch e n = absurd cc
all_last m zero p (t ∷ u ∷ us) l le h touch e n = absurd (omega (arith, n))
all_last m (suc k) p (t ∷ u ∷ us) l le (from, some, fits, (gap, some_u, fits_u, others)) (same, h, i, (same_u, h_u, k_u, touch)) e n =
    let again = all_last (high t + 1) k p (u ∷ us) l (omega (arith, le, from)) (gap, some_u, fits_u, others) (same_u, h_u, k_u, touch) e (omega (arith, n)) in
    ap (λ q. over q t) again ∙ covered_over (extended p l) t (omega (arith, le, from, same)) (omega (arith, length_extended p l, gap, same, same_u, h_u))

pub fits_all : (m : ℕ) (p : Laid) (ts : List Laid) → AreSorted m ts → Touches p ts → p.offset + length p.bytes ≤ 4294967296 → (over_all p ts).offset + length (over_all p ts).bytes ≤ 4294967296
fits_all m p [] h touch le = le
fits_all m p (t ∷ ts) (from, some, fits, others) (same, h, k, touch) le =
    let w = all_within p ts touch in
    let again = fits_all (high t + 1) p ts others touch le in
    let e = end_over (over_all p ts) t (omega (arith, w.2, h)) (omega (arith, w.1, k)) in
    elim (max_cases ((over_all p ts).offset + length (over_all p ts).bytes) (t.offset + length t.bytes)) [ inl c ↦ omega (arith, e, c, fits) | inr c ↦ omega (arith, e, c, again) ]

pub sorted_take : (m n : ℕ) (ls : List Laid) → AreSorted m ls → AreSorted m (take n ls)
sorted_take m zero ls h = tt
sorted_take m (suc n) [] h = tt
sorted_take m (suc n) (l ∷ ls) (from, some, fits, others) = (from, some, fits, sorted_take (high l + 1) n ls others)

-- ---- the runs that are kept

pub split_touched : (cs : List Covered) (start count : ℕ) (t : Covered) → start + count ≤ length cs → 0 < count → t ≡ get_or cs start t
    → take count (drop start (laid_runs cs)) ≡ laid_run t ∷ laid_runs (slice_range cs (start + 1) (start + count))
split_touched cs start count t within some e =
    let low : start < length cs = omega (arith, within, some) in
    let one : count ≡ suc (count - 1) = omega (arith, some) in
    let size : start + count - (start + 1) ≡ count - 1 = omega arith in
    ap (take count) (drop-map laid_run start cs)
    ∙ take-map laid_run count (drop start cs)
    ∙ ap laid_runs (ap (take count) (drop_more cs start t low ∙ ap (λ z. z ∷ drop (start + 1) cs) (sym e)) ∙ ap (λ n. take n (t ∷ drop (start + 1) cs)) one)
    ∙ ap (λ n. laid_run t ∷ laid_runs (take n (drop (start + 1) cs))) (sym size)

pub joined_runs : (cs : List Covered) (start count : ℕ) (t u : Covered) → start + count ≤ length cs → 0 < count
    → laid_runs (remove_range (set cs start u) (start + 1) (start + count)) ≡ take start (laid_runs cs) ++ laid_run u ∷ drop count (drop start (laid_runs cs))
joined_runs cs start count t u within some =
    let low : start < length cs = omega (arith, within, some) in
    let after : start < start + count = omega (arith, some) in
    ap laid_runs (ap (λ z. z ++ drop (start + count) (set cs start u)) (take_more_set cs start u low) ∙ ap (λ z. (take start cs ++ u ∷ []) ++ z) (drop-set-lt (start + count) cs start u after))
    ∙ ap laid_runs (append_assoc (take start cs) (u ∷ []) (drop (start + count) cs))
    ∙ map-append laid_run (take start cs) (u ∷ drop (start + count) cs)
    ∙ ap (λ z. z ++ laid_run u ∷ laid_runs (drop (start + count) cs)) (sym (take-map laid_run start cs))
    ∙ ap (λ z. take start (laid_runs cs) ++ laid_run u ∷ z) (sym (drop-map laid_run (start + count) cs) ∙ sym (drop-drop count start (laid_runs cs)))

pub same_runs : (cs : List Covered) (start : ℕ) (t u : Covered) → start < length cs → t ≡ get_or cs start t → laid_run u ≡ laid_run t → laid_runs (set cs start u) ≡ laid_runs cs
same_runs cs start t u low e same =
    map-set laid_run cs start u ∙ ap (set (laid_runs cs) start) (same ∙ ap laid_run e ∙ sym (get_or-map laid_run cs start t (laid_run t) low)) ∙ set-get_or (laid_runs cs) start (laid_run t)

module _ (cs : List Covered) (start count : ℕ) (p : Laid) (t : Covered) (within : start + count ≤ length cs) (some : 0 < count) (e : t ≡ get_or cs start t)
    (h : AreSorted 0 (laid_runs cs)) (touch : Touches p (take count (drop start (laid_runs cs)))) where
  split_sorted : AreSorted 0 (laid_run t ∷ laid_runs (slice_range cs (start + 1) (start + count)))
  split_sorted = subst (λ z. AreSorted 0 z) (split_touched cs start count t within some e) (sorted_take 0 count (drop start (laid_runs cs)) (sorted_drop 0 start (laid_runs cs) h))

  split_touches : Touches p (laid_run t ∷ laid_runs (slice_range cs (start + 1) (start + count)))
  split_touches = subst (λ z. Touches p z) (split_touched cs start count t within some e) touch

  pub rest_touches : Touches p (laid_runs (slice_range cs (start + 1) (start + count)))
  rest_touches = split_touches.3

  pub rest_sorted : AreSorted (low p) (laid_runs (slice_range cs (start + 1) (start + count)))
  rest_sorted =
      let s : AreSorted 0 (laid_run t ∷ laid_runs (slice_range cs (start + 1) (start + count))) = split_sorted in
      let f : Touches p (laid_run t ∷ laid_runs (slice_range cs (start + 1) (start + count))) = split_touches in
      sorted_from (low p) (high (laid_run t) + 1) (laid_runs (slice_range cs (start + 1) (start + count))) (omega (arith, f.0, f.2)) s.3

  pub first_segment : t.segment ≡ (over_all p (laid_runs (slice_range cs (start + 1) (start + count)))).segment
  first_segment = split_touches.0 ∙ sym (all_within p (laid_runs (slice_range cs (start + 1) (start + count))) rest_touches).0

  pub first_from : (over_all p (laid_runs (slice_range cs (start + 1) (start + count)))).offset ≤ t.first + length t.bytes.items
  first_from =
      let f : Touches p (laid_run t ∷ laid_runs (slice_range cs (start + 1) (start + count))) = split_touches in
      let w = all_within p (laid_runs (slice_range cs (start + 1) (start + count))) rest_touches in
      omega (arith, f.2, w.1)

  pub rest_fits : p.offset + length p.bytes ≤ 4294967296
      → (over_all p (laid_runs (slice_range cs (start + 1) (start + count)))).offset + length (over_all p (laid_runs (slice_range cs (start + 1) (start + count)))).bytes ≤ 4294967296
  rest_fits le = fits_all (low p) p (laid_runs (slice_range cs (start + 1) (start + count))) rest_sorted rest_touches le

-- a piece within one run touches no other
pub part_alone : (cs : List Covered) (start count : ℕ) (t : Covered) (p : Laid) → start + count ≤ length cs → 0 < count → t ≡ get_or cs start t
    → IsPartOf p (take count (drop start (laid_runs cs)))
    → (laid_runs (slice_range cs (start + 1) (start + count)) ≡ []) × (t.first ≤ p.offset) × (p.offset + length p.bytes ≤ t.first + length t.bytes.items)
part_alone cs start count t p within some e part =
    let q : laid_run t ∷ laid_runs (slice_range cs (start + 1) (start + count)) ≡ part.run ∷ [] = sym (split_touched cs start count t within some e) ∙ part.one in
    let rest : laid_runs (slice_range cs (start + 1) (start + count)) ≡ [] = cc in
    let same : part.run ≡ laid_run t = cc in
    (rest, subst (λ r. r.offset ≤ p.offset) same part.from, subst (λ r. p.offset + length p.bytes ≤ r.offset + length r.bytes) same part.to)

pub joined_are : (cs items : List Covered) (start count : ℕ) (t u : Covered) (p q : Laid) → start + count ≤ length cs → 0 < count → t ≡ get_or cs start t
    → items ≡ remove_range (set cs start u) (start + 1) (start + count) → laid_run u ≡ over q (laid_run t) → q ≡ over_all p (laid_runs (slice_range cs (start + 1) (start + count)))
    → laid_runs items ≡ take start (laid_runs cs) ++ over_all p (take count (drop start (laid_runs cs))) ∷ drop count (drop start (laid_runs cs))
joined_are cs items start count t u p q within some e ei eu eq =
    ap laid_runs ei ∙ joined_runs cs start count t u within some
    ∙ ap (λ z. take start (laid_runs cs) ++ z ∷ drop count (drop start (laid_runs cs)))
    (eu ∙ ap (λ z. over z (laid_run t)) eq ∙ sym (ap (over_all p) (split_touched cs start count t within some e)))

-- ---- a piece whose places all have a byte

none_ended : (at segment x : ℕ) (ls : List Laid) → EndBefore at ls → at ≤ line_place segment x → byte_at ls segment x ≡ None
none_ended at segment x [] h le = refl
none_ended at segment x (l ∷ ls) (e, es) le =
    byte_first l ls segment x ∙ ap (λ o. option_or o (byte_of segment x l)) (none_ended at segment x ls es le) ∙ none_high segment x l (omega (arith, e, le))

none_begun : (at segment x : ℕ) (ls : List Laid) → BeginAfter at ls → line_place segment x ≤ at → byte_at ls segment x ≡ None
none_begun at segment x [] h le = refl
none_begun at segment x (l ∷ ls) (b, bs) le =
    byte_first l ls segment x ∙ ap (λ o. option_or o (byte_of segment x l)) (none_begun at segment x ls bs le) ∙ none_low segment x l (omega (arith, b, le))

only_touched : (segment x : ℕ) (front ts back : List Laid) → byte_at front segment x ≡ None → byte_at back segment x ≡ None
    → byte_at (front ++ (ts ++ back)) segment x ≡ byte_at ts segment x
only_touched segment x front ts back f b =
    byte_append front (ts ++ back) segment x ∙ ap (option_or (byte_at (ts ++ back) segment x)) f ∙ option_or-none (byte_at (ts ++ back) segment x)
    ∙ byte_append ts back segment x ∙ ap (λ o. option_or o (byte_at ts segment x)) b

nothing_there : {A : Type 0} (o : Option A) → o ≡ None → IsSome o → ⊥
nothing_there None e h = absurd cc
nothing_there (Some x) e h = absurd cc

-- it is within one of the runs that it touches, and touches no other
part_of : (m : ℕ) (p : Laid) (ts : List Laid) → AreSorted m ts → Touches p ts → 0 < length p.bytes
    → ((x : ℕ) → p.offset ≤ x → x < p.offset + length p.bytes → IsSome (byte_at ts p.segment x)) → IsPartOf p ts
part_of m p [] h t some c = absurd (nothing_there (byte_at [] p.segment p.offset) refl (c p.offset (omega arith) (omega (arith, some))))
part_of m p (r ∷ []) h (same, low_end, high_end, rest) some c =
    let n = length p.bytes in
    let here : (x : ℕ) → p.offset ≤ x → x < p.offset + n → IsSome (byte_of p.segment x r) = λ x lo hi. subst IsSome (byte_first r [] p.segment x) (c x lo hi) in
    let first = covered_place p.segment p.offset r (here p.offset (omega arith) (omega (arith, some))) in
    let final = covered_place p.segment (p.offset + n - 1) r (here (p.offset + n - 1) (omega (arith, some)) (omega (arith, some))) in
    record { run = r; one = refl; from = omega (arith, same, first); to = omega (arith, same, final, some) }
part_of m p (r ∷ s ∷ ts) (at, nonempty, fits, others) (same, low_end, high_end, (next, next_low, next_high, rest)) some c =
    let x = r.offset + length r.bytes in
    let gap = others.0 in
    let inside : x < p.offset + length p.bytes = omega (arith, gap, same, next, next_low) in
    let past : line_place p.segment x < high r + 1 = omega (arith, same) in
    let over : high r ≤ line_place p.segment x = omega (arith, same) in
    absurd (nothing_there (byte_at (r ∷ s ∷ ts) p.segment x)
    (byte_first r (s ∷ ts) p.segment x ∙ ap (λ o. option_or o (byte_of p.segment x r)) (none_before (high r + 1) (s ∷ ts) p.segment x others past) ∙ none_high p.segment x r over)
    (c x high_end inside))

-- ---- a piece laid

from_take : (at n : ℕ) (ls : List Laid) → EndFrom at ls → EndFrom at (take n ls)
from_take at zero ls h = tt
from_take at (suc n) [] h = tt
from_take at (suc n) (l ∷ ls) (e, es) = (e, from_take at n ls es)

module _ (cs rest : List Covered) (start count : ℕ) (p : Laid) (is : rest ≡ drop start cs) (h : AreSorted 0 (laid_runs cs)) (some : 0 < length p.bytes)
    (fits : p.offset + length p.bytes ≤ 4294967296) (before : EndBefore (low p) (take start (laid_runs cs))) (from : EndFrom (low p) (drop start (laid_runs cs)))
    (by : BeginBy (high p) (take count (laid_runs rest))) (after : BeginAfter (high p) (drop count (laid_runs rest))) where
  same_rest : laid_runs rest ≡ drop start (laid_runs cs)
  same_rest = ap laid_runs is ∙ sym (drop-map laid_run start cs)

  all_back : (take start (laid_runs cs) ++ (take count (drop start (laid_runs cs)) ++ drop count (drop start (laid_runs cs)))) ≡ laid_runs cs
  all_back = ap (λ z. take start (laid_runs cs) ++ z) (take-append-drop count (drop start (laid_runs cs))) ∙ take-append-drop start (laid_runs cs)

  pub lay_touches : Touches p (take count (drop start (laid_runs cs)))
  lay_touches = touching 0 p (take count (drop start (laid_runs cs))) (drop count (drop start (laid_runs cs))) fits
      (subst (λ z. AreSorted 0 z) (sym (take-append-drop count (drop start (laid_runs cs)))) (sorted_drop 0 start (laid_runs cs) h))
      (from_take (low p) count (drop start (laid_runs cs)) from) (subst (λ z. BeginBy (high p) (take count z)) same_rest by)

  pub lay_sorted : AreSorted 0 (take start (laid_runs cs) ++ over_all p (take count (drop start (laid_runs cs))) ∷ drop count (drop start (laid_runs cs)))
  lay_sorted = sorted_joined 0 p (take start (laid_runs cs)) (take count (drop start (laid_runs cs))) (drop count (drop start (laid_runs cs))) (omega arith) some fits before lay_touches
      (subst (λ z. BeginAfter (high p) (drop count z)) same_rest after) (subst (λ z. AreSorted 0 z) (sym all_back) h)

  pub lay_bytes : (segment x : ℕ) → byte_at (take start (laid_runs cs) ++ over_all p (take count (drop start (laid_runs cs))) ∷ drop count (drop start (laid_runs cs))) segment x
      ≡ option_or (byte_of segment x p) (byte_at (laid_runs cs) segment x)
  lay_bytes segment x =
      byte_joined segment x p (take start (laid_runs cs)) (take count (drop start (laid_runs cs))) (drop count (drop start (laid_runs cs))) lay_touches
      (subst (λ z. BeginAfter (high p) (drop count z)) same_rest after)
      ∙ ap (λ z. option_or (byte_of segment x p) (byte_at z segment x)) all_back

  pub lay_inside : IsCovered (laid_runs cs) p → IsPartOf p (take count (drop start (laid_runs cs)))
  lay_inside c = part_of 0 p (take count (drop start (laid_runs cs))) (sorted_take 0 count (drop start (laid_runs cs)) (sorted_drop 0 start (laid_runs cs) h)) lay_touches some
      (λ x lo hi. subst IsSome
      (ap (λ z. byte_at z p.segment x) (sym all_back)
      ∙ only_touched p.segment x (take start (laid_runs cs)) (take count (drop start (laid_runs cs))) (drop count (drop start (laid_runs cs)))
      (none_ended (low p) p.segment x (take start (laid_runs cs)) before (omega (arith, lo)))
      (none_begun (high p) p.segment x (drop count (drop start (laid_runs cs))) (subst (λ z. BeginAfter (high p) (drop count z)) same_rest after) (omega (arith, hi))))
      (c x lo hi))

pub laying : (cs rest : List Covered) (start count at to : ℕ) (p : Laid) → rest ≡ drop start cs → at ≡ low p → to ≡ high p → AreSorted 0 (laid_runs cs)
    → 0 < length p.bytes → p.offset + length p.bytes ≤ 4294967296 → EndBefore at (take start (laid_runs cs)) → EndFrom at (drop start (laid_runs cs))
    → BeginBy to (take count (laid_runs rest)) → BeginAfter to (drop count (laid_runs rest)) → IsTouched (laid_runs cs) p start count
laying cs rest start count at to p is ea et h some fits before from by after =
    let before' : EndBefore (low p) (take start (laid_runs cs)) = subst (λ n. EndBefore n (take start (laid_runs cs))) ea before in
    let from' : EndFrom (low p) (drop start (laid_runs cs)) = subst (λ n. EndFrom n (drop start (laid_runs cs))) ea from in
    let by' : BeginBy (high p) (take count (laid_runs rest)) = subst (λ n. BeginBy n (take count (laid_runs rest))) et by in
    let after' : BeginAfter (high p) (drop count (laid_runs rest)) = subst (λ n. BeginAfter n (drop count (laid_runs rest))) et after in
    record {
      touches = lay_touches cs rest start count p is h some fits before' from' by' after';
      sorted = lay_sorted cs rest start count p is h some fits before' from' by' after';
      bytes = lay_bytes cs rest start count p is h some fits before' from' by' after';
      inside = lay_inside cs rest start count p is h some fits before' from' by' after';
    }

pub inserted_are : (cs items : List Covered) (start count : ℕ) (piece : Covered) → count ≡ 0 → items ≡ take start cs ++ piece ∷ drop start cs
    → laid_runs items ≡ take start (laid_runs cs) ++ over_all (laid_run piece) (take count (drop start (laid_runs cs))) ∷ drop count (drop start (laid_runs cs))
inserted_are cs items start count piece none e =
    ap laid_runs e ∙ map-append laid_run (take start cs) (piece ∷ drop start cs)
    ∙ ap (λ z. z ++ laid_run piece ∷ laid_runs (drop start cs)) (sym (take-map laid_run start cs))
    ∙ ap (λ z. take start (laid_runs cs) ++ laid_run piece ∷ z) (sym (drop-map laid_run start cs))
    ∙ ap (λ n. take start (laid_runs cs) ++ over_all (laid_run piece) (take n (drop start (laid_runs cs))) ∷ drop n (drop start (laid_runs cs))) (sym none)

pub kept_sorted : (b : Bool) (items xs ys : List Covered) → items ≡ (if b then xs else ys) → AreSorted 0 (laid_runs xs) → AreSorted 0 (laid_runs ys) → AreSorted 0 (laid_runs items)
kept_sorted true items xs ys e hx hy = subst (λ z. AreSorted 0 (laid_runs z)) (sym e) hx
kept_sorted false items xs ys e hx hy = subst (λ z. AreSorted 0 (laid_runs z)) (sym e) hy

pub ok_then : {A E : Type 0} {P Q : Type 0} (r : Result A E) → OnOk r P → (P → Q) → OnOk r Q
ok_then (Ok x) p f = f p
ok_then (Err e) p f = tt

pub either_way : {A E : Type 0} {P Q C : Type 0} (r : Result A E) → OnOk r P → OnErr r Q → (P → C) → (Q → C) → C
either_way (Ok x) p q f g = f p
either_way (Err e) p q f g = g q

pub err_then : {A E : Type 0} {P Q : Type 0} (r : Result A E) → OnErr r P → (P → Q) → OnErr r Q
err_then (Ok x) p f = tt
err_then (Err e) p f = f p

pub on_err : {A E : Type 0} {Q : Type 0} (r : Result A E) → Q → OnErr r Q
on_err (Ok x) q = tt
on_err (Err e) q = q
