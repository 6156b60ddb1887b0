-- Separate runs that cover the same places as the pieces are all the maximal covered intervals.
use Rattle.std.proofs.Common.{◌≡◌, ◌⊎◌, inl, inr, ℕ, zero, suc, ◌+◌, ◌-◌, ◌<◌, ◌≤◌, Bool, true, false, List, [], ◌∷◌, ◌++◌, length, Option, Some, None, refl, sym, ◌∙◌, ap, subst, arith, append_assoc}
use Rattle.std.specs.Prelude.{Contains, IsSome, IsNone, slice_get, fold, min, max, nat_lt, nat_le, ◌==◌, ◌&&◌, if◌then◌else◌, ⊤}
use Rattle.std.specs.Option.{option_or}
use Rattle.std.proofs.Math.Nat.{min-le_left, min-le_right, min-eq_left, min-eq_right, le-max_left, le-max_right, max-eq_left, max-eq_right}
use Rattle.std.proofs.lemmas.Bool.{eqb-true, eq-eqb, leb-true, le-leb}
use Rattle.std.proofs.lemmas.Bool.Decides.{leb_tells}
use Rattle.std.proofs.lemmas.List.{append-nil}
use Rattle.omf_image.specs.declared.run.Run.{Run}
use Rattle.omf_image.specs.Overlay.{Laid, byte_of, byte_at, IsRun, AreRising, AreRuns}
use Rattle.omf_image.specs.Inner.Joined.{run_end, hull, join_run, join_laid, runs_of}
use Rattle.omf_image.specs.Inner.Sorted.{span}
use Rattle.omf_image.proofs.LastLaws.{last_filter_map}

pub some_within : {A : Type 0} (xs : List A) (i : ℕ) → IsSome (slice_get xs i) → i < length xs
some_within [] i h = absurd cc
some_within (x ∷ xs) zero h = omega arith
some_within (x ∷ xs) (suc i) h = let low = some_within xs i h in omega arith

pub within_some : {A : Type 0} (xs : List A) (i : ℕ) → i < length xs → IsSome (slice_get xs i)
within_some [] i h = absurd (omega arith)
within_some (x ∷ xs) zero h = refl
within_some (x ∷ xs) (suc i) h = let low : i < length xs = omega arith in within_some xs i low

-- a place is in a run, or in one of some runs
abbrev pub IsIn : ℕ → Run → Type 0
IsIn x r = (r.first ≤ x) × (x < run_end r)

abbrev pub Covers : List Run → ℕ → Type 0
Covers [] x = ⊥
Covers (r ∷ runs) x = IsIn x r ⊎ Covers runs x

-- runs from a place on, with a gap between each and the next
abbrev pub AreApart : ℕ → List Run → Type 0
AreApart low [] = ⊤
AreApart low (r ∷ runs) = (low ≤ r.first) × (0 < r.len) × AreApart (suc (run_end r)) runs

pub apart_from : (low more : ℕ) (runs : List Run) → low ≤ more → AreApart more runs → AreApart low runs
apart_from low more [] le h = tt
apart_from low more (r ∷ runs) le (from, some, others) = (omega arith, some, others)

-- ---- one more interval

min_is : (a b : ℕ) → (min a b ≡ a) ⊎ (min a b ≡ b)
min_is a b = elim (leb_tells a b) [ inl t ↦ inl (min-eq_left t.1) | inr t ↦ inr (min-eq_right (omega (arith, t.1))) ]

max_is : (a b : ℕ) → (max a b ≡ a) ⊎ (max a b ≡ b)
max_is a b = elim (leb_tells a b) [ inl t ↦ inr (max-eq_right t.1) | inr t ↦ inl (max-eq_left (omega (arith, t.1))) ]

module _ (r s : Run) (some : 0 < r.len) where
  hull_end : run_end (hull r s) ≡ max (run_end r) (run_end s)
  hull_end = omega (arith, min-le_left r.first s.first, le-max_left (run_end r) (run_end s))

  hull_some : 0 < (hull r s).len
  hull_some = omega (arith, min-le_left r.first s.first, le-max_left (run_end r) (run_end s))

  in_hull : (x : ℕ) → IsIn x r ⊎ IsIn x s → IsIn x (hull r s)
  in_hull x (inl (from, to)) = (omega (arith, min-le_left r.first s.first), omega (arith, hull_end, le-max_left (run_end r) (run_end s)))
  in_hull x (inr (from, to)) = (omega (arith, min-le_right r.first s.first), omega (arith, hull_end, le-max_right (run_end r) (run_end s)))

  -- intervals that touch have no gap between them
  of_hull : (x : ℕ) → s.first ≤ run_end r → r.first ≤ run_end s → IsIn x (hull r s) → IsIn x r ⊎ IsIn x s
  of_hull x h k (from, to) = elim (leb_tells r.first x) [
    | inr t ↦ elim (min_is r.first s.first) [
      | inl e ↦ absurd (omega (arith, t.1, e))
      | inr e ↦ inr (omega (arith, e), omega (arith, t.1))
    ]
    | inl t ↦ elim (leb_tells (suc x) (run_end r)) [
      | inl u ↦ inl (t.1, omega (arith, u.1))
      | inr u ↦ elim (max_is (run_end r) (run_end s)) [
        | inl e ↦ absurd (omega (arith, u.1, e, hull_end))
        | inr e ↦ inr (omega (arith, u.1), omega (arith, e, hull_end))
      ]
    ]
  ]

-- the cases of joining
abbrev by_right : Run → Run → List Run → Bool → List Run
by_right r s runs b = elim b [ true ↦ s ∷ join_run r runs | false ↦ join_run (hull r s) runs ]

abbrev by_left : Run → Run → List Run → Bool → List Run
by_left r s runs b = elim b [ true ↦ r ∷ s ∷ runs | false ↦ by_right r s runs (nat_lt (run_end s) r.first) ]

module _ (low : ℕ) (r s : Run) (runs : List Run) (from : low ≤ r.first) (some : 0 < r.len) (low_s : low ≤ s.first) (some_s : 0 < s.len) (others : AreApart (suc (run_end s)) runs)
    (again : (l : ℕ) (t : Run) → l ≤ t.first → 0 < t.len → AreApart l runs → AreApart l (join_run t runs)) where
  apart_right : (b : Bool) → nat_lt (run_end s) r.first ≡ b → AreApart low (by_right r s runs b)
  apart_right true e = let gap : run_end s < r.first = leb-true (suc (run_end s)) r.first e in (low_s, some_s, again (suc (run_end s)) r gap some others)
  apart_right false e =
      let least : low ≤ min r.first s.first = elim (min_is r.first s.first) [ inl m ↦ omega (arith, m) | inr m ↦ omega (arith, m) ] in
      again low (hull r s) least (hull_some r s some) (apart_from low (suc (run_end s)) runs (omega arith) others)

  apart_left : (b : Bool) → nat_lt (run_end r) s.first ≡ b → AreApart low (by_left r s runs b)
  apart_left true e = let gap : run_end r < s.first = leb-true (suc (run_end r)) s.first e in (from, some, (gap, some_s, others))
  apart_left false e = apart_right (nat_lt (run_end s) r.first) refl

pub join_apart : (low : ℕ) (r : Run) (runs : List Run) → low ≤ r.first → 0 < r.len → AreApart low runs → AreApart low (join_run r runs)
join_apart low r [] from some h = (from, some, tt)
join_apart low r (s ∷ runs) from some (low_s, some_s, others) =
    apart_left low r s runs from some low_s some_s others (λ l t le more h. join_apart l t runs le more h) (nat_lt (run_end r) s.first) refl

not_before : (a b : ℕ) → nat_lt a b ≡ false → b ≤ a
not_before a b e = elim (leb_tells (suc a) b) [ inl t ↦ absurd (let same = t.0 in cc) | inr t ↦ omega (arith, t.1) ]

module _ (r s : Run) (runs : List Run) (x : ℕ) (some : 0 < r.len) where
  covers_right : ((t : Run) → 0 < t.len → IsIn x t ⊎ Covers runs x → Covers (join_run t runs) x) → IsIn x r ⊎ Covers (s ∷ runs) x → (b : Bool) → Covers (by_right r s runs b) x
  covers_right again (inl i) true = inr (again r some (inl i))
  covers_right again (inr (inl i)) true = inl i
  covers_right again (inr (inr d)) true = inr (again r some (inr d))
  covers_right again (inl i) false = again (hull r s) (hull_some r s some) (inl (in_hull r s some x (inl i)))
  covers_right again (inr (inl i)) false = again (hull r s) (hull_some r s some) (inl (in_hull r s some x (inr i)))
  covers_right again (inr (inr d)) false = again (hull r s) (hull_some r s some) (inr d)

  covers_left : ((t : Run) → 0 < t.len → IsIn x t ⊎ Covers runs x → Covers (join_run t runs) x) → IsIn x r ⊎ Covers (s ∷ runs) x → (b : Bool) → Covers (by_left r s runs b) x
  covers_left again h true = h
  covers_left again h false = covers_right again h (nat_lt (run_end s) r.first)

  right_covers : ((t : Run) → 0 < t.len → Covers (join_run t runs) x → IsIn x t ⊎ Covers runs x) → s.first ≤ run_end r → (b : Bool) → nat_lt (run_end s) r.first ≡ b
      → Covers (by_right r s runs b) x → IsIn x r ⊎ Covers (s ∷ runs) x
  right_covers again le true e (inl i) = inr (inl i)
  right_covers again le true e (inr d) = elim (again r some d) [ inl i ↦ inl i | inr c ↦ inr (inr c) ]
  right_covers again le false e d = elim (again (hull r s) (hull_some r s some) d) [
    | inl i ↦ elim (of_hull r s some x le (not_before (run_end s) r.first e) i) [ inl j ↦ inl j | inr j ↦ inr (inl j) ]
    | inr c ↦ inr (inr c)
  ]

  left_covers : ((t : Run) → 0 < t.len → Covers (join_run t runs) x → IsIn x t ⊎ Covers runs x) → (b : Bool) → nat_lt (run_end r) s.first ≡ b
      → Covers (by_left r s runs b) x → IsIn x r ⊎ Covers (s ∷ runs) x
  left_covers again true e h = h
  left_covers again false e h = right_covers again (not_before (run_end r) s.first e) (nat_lt (run_end s) r.first) refl h

pub join_covers : (r : Run) (runs : List Run) (x : ℕ) → 0 < r.len → IsIn x r ⊎ Covers runs x → Covers (join_run r runs) x
join_covers r [] x some h = h
join_covers r (s ∷ runs) x some h = covers_left r s runs x some (λ t more k. join_covers t runs x more k) h (nat_lt (run_end r) s.first)

pub covers_join : (r : Run) (runs : List Run) (x : ℕ) → 0 < r.len → Covers (join_run r runs) x → IsIn x r ⊎ Covers runs x
covers_join r [] x some h = h
covers_join r (s ∷ runs) x some h = left_covers r s runs x some (λ t more k. covers_join t runs x more k) (nat_lt (run_end r) s.first) refl h

-- ---- runs that are apart are maximal

pub contains_first : {A : Type 0} (x y : A) (xs : List A) → Contains (y ∷ xs) x → (x ≡ y) ⊎ Contains xs x
contains_first x y xs (zero, low, e) = inl (sym e)
contains_first x y xs (suc k, low, e) = let less : k < length xs = omega arith in inr (k, less, e)

pub contains_more : {A : Type 0} (x y : A) (xs : List A) → Contains xs x → Contains (y ∷ xs) x
contains_more x y xs (k, low, e) = let more : suc k < length (y ∷ xs) = omega arith in (suc k, more, e)

pub contains_here : {A : Type 0} (x : A) (xs : List A) → Contains (x ∷ xs) x
contains_here x xs = let some : 0 < length (x ∷ xs) = omega arith in (0, some, refl)

pub contains_none : {A : Type 0} (x : A) → Contains [] x → ⊥
contains_none x (k, low, e) = omega (arith, low)

-- nothing is covered before the runs
covers_from : (low : ℕ) (runs : List Run) (x : ℕ) → AreApart low runs → Covers runs x → low ≤ x
covers_from low [] x h c = absurd c
covers_from low (r ∷ runs) x (from, some, others) (inl i) = omega (arith, i.0)
covers_from low (r ∷ runs) x (from, some, others) (inr c) = omega (arith, covers_from (suc (run_end r)) runs x others c)

-- each run is after the place, and not empty
run_from : (low : ℕ) (runs : List Run) (r : Run) → AreApart low runs → Contains runs r → (low ≤ r.first) × (0 < r.len)
run_from low [] r h c = absurd (contains_none r c)
run_from low (s ∷ runs) r (from, some, others) c = elim (contains_first r s runs c) [
  | inl e ↦ (subst (λ t. low ≤ t.first) (sym e) from, subst (λ t. 0 < t.len) (sym e) some)
  | inr d ↦ let h = run_from (suc (run_end s)) runs r others d in (omega (arith, h.0), h.1)
]

covers_run : (runs : List Run) (r : Run) (x : ℕ) → Contains runs r → IsIn x r → Covers runs x
covers_run [] r x c i = absurd (contains_none r c)
covers_run (s ∷ runs) r x c i = elim (contains_first r s runs c) [ inl e ↦ inl (subst (IsIn x) e i) | inr d ↦ inr (covers_run runs r x d i) ]

run_covering : (runs : List Run) (x : ℕ) → Covers runs x → (r : Run) × Contains runs r × IsIn x r
run_covering [] x c = absurd c
run_covering (s ∷ runs) x (inl i) = (s, contains_here s runs, i)
run_covering (s ∷ runs) x (inr c) = let h = run_covering runs x c in (h.0, contains_more h.0 s runs h.1, h.2)

end_uncovered : (low : ℕ) (runs : List Run) (r : Run) → AreApart low runs → Contains runs r → Covers runs (run_end r) → ⊥
end_uncovered low [] r h c d = d
end_uncovered low (s ∷ runs) r (from, some, others) c d = elim (contains_first r s runs c) [
  | inl e ↦ elim d [
    | inl i ↦ let j : IsIn (run_end s) s = subst (λ t. IsIn (run_end t) s) e i in omega (arith, j.1)
    | inr k ↦ let j : Covers runs (run_end s) = subst (λ t. Covers runs (run_end t)) e k in omega (arith, covers_from (suc (run_end s)) runs (run_end s) others j)
  ]
  | inr f ↦ elim d [
    | inl i ↦ let h = run_from (suc (run_end s)) runs r others f in omega (arith, i.1, h.0)
    | inr k ↦ end_uncovered (suc (run_end s)) runs r others f k
  ]
]

front_uncovered : (low : ℕ) (runs : List Run) (r : Run) (x : ℕ) → x + 1 ≡ r.first → AreApart low runs → Contains runs r → Covers runs x → ⊥
front_uncovered low [] r x at h c d = d
front_uncovered low (s ∷ runs) r x at (from, some, others) c d = elim (contains_first r s runs c) [
  | inl e ↦ let same : r.first ≡ s.first = ap (λ t. t.first) e in elim d [
    | inl i ↦ omega (arith, i.0, same, at)
    | inr k ↦ omega (arith, covers_from (suc (run_end s)) runs x others k, same, at)
  ]
  | inr f ↦ elim d [
    | inl i ↦ let h = run_from (suc (run_end s)) runs r others f in omega (arith, i.1, h.0, at)
    | inr k ↦ front_uncovered (suc (run_end s)) runs r x at others f k
  ]
]

rising_of : (low : ℕ) (runs : List Run) → AreApart low runs → AreRising runs
rising_of low [] h = tt
rising_of low (r ∷ []) h = tt
rising_of low (r ∷ s ∷ runs) (from, some, (gap, some_s, others)) = (omega (arith, gap), rising_of (suc (run_end r)) (s ∷ runs) (gap, some_s, others))

pub some_or_none : {A : Type 0} (o : Option A) → (IsSome o → ⊥) → IsNone o
some_or_none None h = refl
some_or_none (Some x) h = absurd (h refl)

never_both : {A : Type 0} (o : Option A) → IsSome o → IsNone o → ⊥
never_both None s n = cc
never_both (Some x) s n = cc

pub same_run : (r s : Run) → r.first ≡ s.first → r.len ≡ s.len → r ≡ s
same_run r s e f = ap (λ n. record { first = n; len = r.len }) e ∙ ap (λ n. record { first = s.first; len = n }) f

-- Two maximal covered intervals with a place in common are one.
module _ (byte : ℕ → Option ℕ) (r s : Run) (hr : IsRun byte r) (hs : IsRun byte s) (x : ℕ) (ir : IsIn x r) (is : IsIn x s) where
  no_earlier : (r s : Run) → IsRun byte r → IsRun byte s → IsIn x r → IsIn x s → s.first < r.first → ⊥
  no_earlier r s hr hs ir is lt =
      let before : r.first - 1 + 1 ≡ r.first = omega arith in
      never_both (byte (r.first - 1)) (hs.covered (r.first - 1) (omega arith) (omega (arith, ir.0, is.1))) (hr.before (r.first - 1) before)

  no_longer : (r s : Run) → IsRun byte r → IsRun byte s → IsIn x r → IsIn x s → run_end r < run_end s → ⊥
  no_longer r s hr hs ir is lt = never_both (byte (run_end r)) (hs.covered (run_end r) (omega (arith, ir.1, is.0)) lt) hr.after

  one_run : r ≡ s
  one_run =
      let first : r.first ≡ s.first = elim (leb_tells (suc s.first) r.first) [
        | inl t ↦ absurd (no_earlier r s hr hs ir is t.1)
        | inr t ↦ elim (leb_tells (suc r.first) s.first) [ inl u ↦ absurd (no_earlier s r hs hr is ir u.1) | inr u ↦ omega (arith, t.1, u.1) ]
      ] in
      let end : run_end r ≡ run_end s = elim (leb_tells (suc (run_end r)) (run_end s)) [
        | inl t ↦ absurd (no_longer r s hr hs ir is t.1)
        | inr t ↦ elim (leb_tells (suc (run_end s)) (run_end r)) [ inl u ↦ absurd (no_longer s r hs hr is ir u.1) | inr u ↦ omega (arith, t.1, u.1) ]
      ] in
      same_run r s first (omega (arith, first, end))

-- Runs that are apart and cover just the places that have a byte are all the runs.
pub runs_of_apart : (byte : ℕ → Option ℕ) (runs : List Run) → AreApart 0 runs → ((x : ℕ) → Covers runs x → IsSome (byte x)) → ((x : ℕ) → IsSome (byte x) → Covers runs x)
    → AreRuns byte runs
runs_of_apart byte runs apart covered covers =
    let each : (r : Run) → Contains runs r → IsRun byte r = λ r c. record {
      nonempty = (run_from 0 runs r apart c).1;
      covered = λ x from to. covered x (covers_run runs r x c (from, to));
      after = some_or_none (byte (run_end r)) (λ h. end_uncovered 0 runs r apart c (covers (run_end r) h));
      before = λ x at. some_or_none (byte x) (λ h. front_uncovered 0 runs r x at apart c (covers x h));
    } in
    record {
      each = each;
      all = λ r h.
          let inside : IsIn r.first r = (omega arith, omega (arith, h.nonempty)) in
          let s = run_covering runs r.first (covers r.first (h.covered r.first inside.0 inside.1)) in
          let same : s.0 ≡ r = one_run byte s.0 r (each s.0 s.1) h r.first s.2 inside in
          subst (λ t. Contains runs t) same s.1;
      rising = rising_of 0 runs apart;
    }

-- ---- the runs of pieces

pub byte_some : (segment x : ℕ) (l : Laid) → IsSome (byte_of segment x l) → (l.segment ≡ segment) × IsIn x (span l)
byte_some segment x l = by (l.segment == segment) refl (nat_le l.offset x) refl
  where
    by : (b : Bool) → l.segment == segment ≡ b → (c : Bool) → nat_le l.offset x ≡ c → IsSome (if b && c then slice_get l.bytes (x - l.offset) else None) → (l.segment ≡ segment) × IsIn x (span l)
    by true e true f h =
        let from : l.offset ≤ x = leb-true l.offset x f in
        let low = some_within l.bytes (x - l.offset) h in
        (eqb-true l.segment segment e, (from, omega (arith, low, from)))
    by true e false f h = absurd cc
    by false e c f h = absurd cc

pub some_byte : (segment x : ℕ) (l : Laid) → l.segment ≡ segment → IsIn x (span l) → IsSome (byte_of segment x l)
some_byte segment x l e (from, to) =
    let inside : IsSome (slice_get l.bytes (x - l.offset)) = within_some l.bytes (x - l.offset) (omega (arith, from, to)) in
    subst (λ b. IsSome (if b && nat_le l.offset x then slice_get l.bytes (x - l.offset) else None)) (sym (eq-eqb l.segment segment e))
    (subst (λ b. IsSome (if b then slice_get l.bytes (x - l.offset) else None)) (sym (le-leb l.offset x from)) inside)

some_or : {A : Type 0} (o p : Option A) → IsSome (option_or o p) → IsSome o ⊎ IsSome p
some_or None p h = inr h
some_or (Some x) p h = inl refl

or_some : {A : Type 0} (o p : Option A) → IsSome o ⊎ IsSome p → IsSome (option_or o p)
or_some None p (inl h) = absurd cc
or_some None p (inr h) = h
or_some (Some x) p h = refl

-- the byte at a place after one more piece
pub byte_at-append : (laid : List Laid) (l : Laid) (segment x : ℕ) → byte_at (laid ++ l ∷ []) segment x ≡ option_or (byte_of segment x l) (byte_at laid segment x)
byte_at-append laid l segment x = last_filter_map (byte_of segment x) laid l

-- separate runs that cover the same places as some pieces
pub record AreOf (segment : ℕ) (laid : List Laid) (runs : List Run) : Type 0 where
  pub apart : AreApart 0 runs
  pub covered : (x : ℕ) → Covers runs x → IsSome (byte_at laid segment x)
  pub covers : (x : ℕ) → IsSome (byte_at laid segment x) → Covers runs x

module _ (segment : ℕ) (laid : List Laid) (runs : List Run) (l : Laid) (h : AreOf segment laid runs) where
  joined_of : l.segment ≡ segment → 0 < length l.bytes → AreOf segment (laid ++ l ∷ []) (join_run (span l) runs)
  joined_of e some = record {
    apart = join_apart 0 (span l) runs (omega arith) some h.apart;
    covered = λ x c. subst IsSome (sym (byte_at-append laid l segment x)) (or_some (byte_of segment x l) (byte_at laid segment x) (elim (covers_join (span l) runs x some c) [
      | inl i ↦ inl (some_byte segment x l e i)
      | inr d ↦ inr (h.covered x d)
    ]));
    covers = λ x s. join_covers (span l) runs x some (elim (some_or (byte_of segment x l) (byte_at laid segment x) (subst IsSome (byte_at-append laid l segment x) s)) [
      | inl b ↦ inl (byte_some segment x l b).1
      | inr b ↦ inr (h.covers x b)
    ]);
  }

  same_of : ((x : ℕ) → IsSome (byte_of segment x l) → ⊥) → AreOf segment (laid ++ l ∷ []) runs
  same_of none = record {
    apart = h.apart;
    covered = λ x c. subst IsSome (sym (byte_at-append laid l segment x)) (or_some (byte_of segment x l) (byte_at laid segment x) (inr (h.covered x c)));
    covers = λ x s. elim (some_or (byte_of segment x l) (byte_at laid segment x) (subst IsSome (byte_at-append laid l segment x) s)) [
      | inl b ↦ absurd (none x b)
      | inr b ↦ h.covers x b
    ];
  }

  more_of : AreOf segment (laid ++ l ∷ []) (join_laid segment runs l)
  more_of = by (l.segment == segment) refl (nat_lt 0 (length l.bytes)) refl
    where
      by : (b : Bool) → l.segment == segment ≡ b → (c : Bool) → nat_lt 0 (length l.bytes) ≡ c → AreOf segment (laid ++ l ∷ []) (if b && c then join_run (span l) runs else runs)
      by true e true f = joined_of (eqb-true l.segment segment e) (leb-true 1 (length l.bytes) f)
      by true e false f = same_of (λ x s. let i = (byte_some segment x l s).1 in omega (arith, i.0, i.1, not_before 0 (length l.bytes) f))
      by false e c f = same_of (λ x s. let q = eq-eqb l.segment segment (byte_some segment x l s).0 in absurd cc)

fold_of : (segment : ℕ) (laid more : List Laid) (runs : List Run) → AreOf segment laid runs → AreOf segment (laid ++ more) (fold (join_laid segment) runs more)
fold_of segment laid [] runs h = subst (λ ls. AreOf segment ls runs) (sym (append-nil laid)) h
fold_of segment laid (l ∷ more) runs h =
    subst (λ ls. AreOf segment ls (fold (join_laid segment) (join_laid segment runs l) more)) (append_assoc laid (l ∷ []) more)
    (fold_of segment (laid ++ l ∷ []) more (join_laid segment runs l) (more_of segment laid runs l h))

none_of : (segment : ℕ) → AreOf segment [] []
none_of segment = record { apart = tt; covered = λ x c. absurd c; covers = λ x s. absurd cc }

-- The computed runs cover the same places as the pieces.
pub runs_cover : (segment : ℕ) (laid : List Laid) → AreOf segment laid (runs_of laid segment)
runs_cover segment laid = fold_of segment [] laid [] (none_of segment)

-- The computed runs are all the maximal covered intervals.
pub joined_are_runs : (laid : List Laid) (segment : ℕ) → AreRuns (byte_at laid segment) (runs_of laid segment)
joined_are_runs laid segment = let h = runs_cover segment laid in runs_of_apart (byte_at laid segment) (runs_of laid segment) h.apart h.covered h.covers

-- ---- there is one list of runs

rising_above : (r : Run) (rs : List Run) (s : Run) → AreRising (r ∷ rs) → Contains rs s → r.first < s.first
rising_above r [] s h c = absurd (contains_none s c)
rising_above r (t ∷ rs) s (lt, h) c = elim (contains_first s t rs c) [
  | inl e ↦ let q = ap (λ u. u.first) e in omega (arith, q, lt)
  | inr d ↦ let more = rising_above t rs s h d in omega (arith, more, lt)
]

rising_rest : (r : Run) (rs : List Run) → AreRising (r ∷ rs) → AreRising rs
rising_rest r [] h = tt
rising_rest r (s ∷ rs) (lt, h) = h

-- a run in both lists that is not the first of one is after the first of the other
in_rest : (r s t : Run) (rs ss : List Run) → AreRising (r ∷ rs) → r ≡ s → Contains rs t → Contains (s ∷ ss) t → Contains ss t
in_rest r s t rs ss h same c d = elim (contains_first t s ss d) [
  | inl e ↦ let more = rising_above r rs t h c in let q = ap (λ u. u.first) e in let p = ap (λ u. u.first) same in absurd (omega (arith, more, q, p))
  | inr f ↦ f
]

first_same : (r s : Run) (rs ss : List Run) → AreRising (r ∷ rs) → AreRising (s ∷ ss) → Contains (s ∷ ss) r → Contains (r ∷ rs) s → r ≡ s
first_same r s rs ss hr hs c d = elim (contains_first r s ss c) [
  | inl e ↦ e
  | inr f ↦ elim (contains_first s r rs d) [
    | inl e ↦ sym e
    | inr g ↦ absurd (let a = rising_above s ss r hs f in let b = rising_above r rs s hr g in omega (arith, a, b))
  ]
]

same_runs : (rs ss : List Run) → AreRising rs → AreRising ss → ((r : Run) → Contains rs r → Contains ss r) → ((r : Run) → Contains ss r → Contains rs r) → rs ≡ ss
same_runs [] [] hr hs to from = refl
same_runs [] (s ∷ ss) hr hs to from = absurd (contains_none s (from s (contains_here s ss)))
same_runs (r ∷ rs) [] hr hs to from = absurd (contains_none r (to r (contains_here r rs)))
same_runs (r ∷ rs) (s ∷ ss) hr hs to from =
    let same : r ≡ s = first_same r s rs ss hr hs (to r (contains_here r rs)) (from s (contains_here s ss)) in
    let others : rs ≡ ss = same_runs rs ss (rising_rest r rs hr) (rising_rest s ss hs)
    (λ t c. in_rest r s t rs ss hr same c (to t (contains_more t r rs c)))
    (λ t c. in_rest s r t ss rs hs (sym same) c (from t (contains_more t s ss c))) in
    ap (λ t. t ∷ rs) same ∙ ap (λ ts. s ∷ ts) others

-- A map of bytes has one list of runs.
pub runs_unique : (byte : ℕ → Option ℕ) (rs ss : List Run) → AreRuns byte rs → AreRuns byte ss → rs ≡ ss
runs_unique byte rs ss hr hs = same_runs rs ss hr.rising hs.rising (λ r c. hs.all r (hr.each r c)) (λ r c. hr.all r (hs.each r c))
