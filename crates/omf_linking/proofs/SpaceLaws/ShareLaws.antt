-- What pieces have at an address, by the intervals that they cover.
use Rattle.std.proofs.Common.{◌≡◌, ℕ, ◌+◌, ◌-◌, ◌<◌, ◌≤◌, List, [], ◌∷◌, length, refl, sym, ap, ap₂, subst, ◌∙◌, arith, Bool, true, false, cond, ◌&&◌, nat_le, nat_lt, Option, Some, None}
use Rattle.std.proofs.lemmas.Bool.Decides.{nat_tests}
use Rattle.std.proofs.lemmas.List.Elements.{All-head, All-tail, All-nil, All-cons}
use Rattle.std.specs.Prelude.{All, find, option_map, slice_get, IsSome, IsNone}
use Rattle.std.proofs.lemmas.List.Sums.{sum_by-cons}
use Rattle.std.proofs.lemmas.Option.{slice_get_cases}
use Rattle.omf_linking.specs.declared.space.stretch.Owner.{Owner}
use Rattle.omf_linking.specs.declared.space.stretch.Stretch.{Stretch}
use Rattle.omf_linking.specs.Space.Memory.{Piece, piece, pieces, Lies, Share, share_of, shares, overlap, excludes, IsFirstOverlap}
use Rattle.omf_linking.specs.Inner.Sweeping.{interval, intervals}
use Rattle.omf_linking.specs.declared.space.sweep.Interval.{Interval}
use Rattle.omf_linking.proofs.SpaceLaws.SweepLaws.{within, own, own_at, all_at, Clash, NoClash, IsFirst}

-- the number of those that are not common
abbrev pub owns : List Share → ℕ
owns [] = 0
owns (s ∷ ss) = cond s.common 0 1 + owns ss

-- ---- one piece at an address: nothing, or a byte

abbrev pub IsAt : ℕ → Piece → Option Share → Type 0
IsAt a p None = within a (interval p) ≡ 0
IsAt a p (Some s) = (within a (interval p) ≡ 1) × (s.common ≡ p.common)

piece_at : (a : ℕ) (p : Piece) (b : Bool) → nat_le p.address a ≡ b → (x : Option ℕ) → slice_get p.bytes (a - p.address) ≡ x → IsAt a p (share_of a p)
piece_at a p false e x f = let none : within a (interval p) ≡ 0 = rw e refl in rw e none
piece_at a p true e None f =
    let past : nat_lt a (p.address + length p.bytes) ≡ false = grind (arith, nat_tests, slice_get_cases p.bytes (a - p.address), f) in
    let none : within a (interval p) ≡ 0 = rw (e, past) refl in
    rw (e, f) none
piece_at a p true e (Some x) f =
    let there : nat_lt a (p.address + length p.bytes) ≡ true = grind (arith, nat_tests, slice_get_cases p.bytes (a - p.address), f) in
    let one : within a (interval p) ≡ 1 = rw (e, there) refl in
    rw (e, f) (one, refl)

pub at : (a : ℕ) (p : Piece) → IsAt a p (share_of a p)
at a p = piece_at a p (nat_le p.address a) refl (slice_get p.bytes (a - p.address)) refl

-- ---- pieces at an address

abbrev Counts : ℕ → List Piece → Type 0
Counts a ps = (length (shares ps a) ≡ all_at (intervals ps) a) × (owns (shares ps a) ≡ own_at (intervals ps) a)

one_more : (a : ℕ) (p : Piece) (ps : List Piece) (o : Option Share) → share_of a p ≡ o → IsAt a p o → Counts a ps → Counts a (p ∷ ps)
one_more a p ps None e h n =
    let same : shares (p ∷ ps) a ≡ shares ps a = rw e refl in
    let none : own a (interval p) ≡ 0 = nothing p.common (within a (interval p)) h in (
      ap length same ∙ n.0 ∙ omega (arith, sum_by-cons (within a) (interval p) (intervals ps), h),
      ap (λ ss. owns ss) same ∙ n.1 ∙ omega (arith, sum_by-cons (own a) (interval p) (intervals ps), none),
    )
  where
    nothing : (b : Bool) (n : ℕ) → n ≡ 0 → cond b 0 n ≡ 0
    nothing true n h = refl
    nothing false n h = h
one_more a p ps (Some s) e h n =
    let same : shares (p ∷ ps) a ≡ s ∷ shares ps a = rw e refl in
    let one : cond s.common 0 1 ≡ own a (interval p) = ap₂ (λ (b : Bool) (n : ℕ). cond b 0 n) h.1 (sym h.0) in (
      ap length same ∙ omega (arith, n.0, sum_by-cons (within a) (interval p) (intervals ps), h.0),
      ap (λ ss. owns ss) same ∙ omega (arith, n.1, sum_by-cons (own a) (interval p) (intervals ps), one),
    )

counts : (a : ℕ) (ps : List Piece) → Counts a ps
counts a [] = (refl, refl)
counts a (p ∷ ps) = one_more a p ps (share_of a p) refl (at a p) (counts a ps)

-- ---- which of some shares exclude one another

-- the next one that a share excludes, or not
next_common : (s t : Share) (ss : List Share) → s.common && t.common ≡ true → find (excludes s) (t ∷ ss) ≡ find (excludes s) ss
next_common s t ss e = rw e refl

both : (a b : Bool) → a ≡ true → b ≡ true → a && b ≡ true
both a b e f = rw (e, f) refl

next_other : (s t : Share) (ss : List Share) → s.common && t.common ≡ false → find (excludes s) (t ∷ ss) ≡ Some t
next_other s t ss e = rw e refl

and_left : (a b : Bool) → a ≡ false → a && b ≡ false
and_left a b e = rw e refl

and_right : (a b : Bool) → b ≡ false → a && b ≡ false
and_right true b e = e
and_right false b e = refl

-- among shares that are common no other excludes a common one
all_common : (s : Share) (ss : List Share) → s.common ≡ true → owns ss ≡ 0 → find (excludes s) ss ≡ None
all_common s [] e h = refl
all_common s (t ∷ ss) e h = by t.common refl h (all_common s ss e)
  where
    by : (b : Bool) → t.common ≡ b → cond b 0 1 + owns ss ≡ 0 → (owns ss ≡ 0 → find (excludes s) ss ≡ None) → find (excludes s) (t ∷ ss) ≡ None
    by true f n rest = next_common s t ss (both s.common t.common e f) ∙ rest (omega (arith, n))
    by false f n rest = absurd (omega (arith, n))

some_own : (s : Share) (ss : List Share) → s.common ≡ true → 1 ≤ owns ss → IsSome (find (excludes s) ss)
some_own s [] e h = absurd (omega (arith, h))
some_own s (t ∷ ss) e h = by t.common refl h (some_own s ss e)
  where
    by : (b : Bool) → t.common ≡ b → 1 ≤ cond b 0 1 + owns ss → (1 ≤ owns ss → IsSome (find (excludes s) ss)) → IsSome (find (excludes s) (t ∷ ss))
    by true f n rest = subst IsSome (sym (next_common s t ss (both s.common t.common e f))) (rest (omega (arith, n)))
    by false f n rest = subst IsSome (sym (next_other s t ss (and_right s.common t.common f))) refl

owns_few : (ss : List Share) → owns ss ≤ length ss
owns_few [] = omega arith
owns_few (s ∷ ss) = let x = by s.common (owns_few ss) in omega (arith, x)
  where
    by : (b : Bool) → owns ss ≤ length ss → cond b 0 1 + owns ss ≤ length ss + 1
    by true few = omega (arith, few)
    by false few = omega (arith, few)

-- ---- whether the first of some shares overlaps another, by how many there are and how many are not common

none_mapped : {A B : Type 0} (f : A → B) (o : Option A) → o ≡ None → IsNone (option_map f o)
none_mapped f o e = rw e refl

some_mapped : {A B : Type 0} (f : A → B) (o : Option A) → IsSome o → IsSome (option_map f o)
some_mapped f None h = h
some_mapped f (Some x) h = refl

abbrev pair : Share → Share → Owner × Owner
pair s t = (s.owner, t.owner)

none_behind : (s : Share) (ss : List Share) (b : Bool) → s.common ≡ b → (1 ≤ cond b 0 1 + owns ss → length ss + 1 < 2) → IsNone (overlap (s ∷ ss))
none_behind s ss true e h =
    let few = owns_few ss in
    let none : owns ss ≡ 0 = grind (arith, h, few) in
    none_mapped (pair s) (find (excludes s) ss) (all_common s ss e none)
none_behind s [] false e h = refl
none_behind s (t ∷ ss) false e h = let x = h (omega arith) in absurd (omega (arith, x))

some_behind : (s : Share) (ss : List Share) (b : Bool) → s.common ≡ b → 1 ≤ cond b 0 1 + owns ss → 2 ≤ length ss + 1 → IsSome (overlap (s ∷ ss))
some_behind s ss true e h two = some_mapped (pair s) (find (excludes s) ss) (some_own s ss e (omega (arith, h)))
some_behind s [] false e h two = absurd (omega (arith, two))
some_behind s (t ∷ ss) false e h two = some_mapped (pair s) (find (excludes s) (t ∷ ss)) (subst IsSome (sym (next_other s t ss (and_left s.common t.common e))) refl)

pub no_overlap : (ss : List Share) → NoClash (owns ss) (length ss) → IsNone (overlap ss)
no_overlap [] h = refl
no_overlap (s ∷ ss) h = none_behind s ss s.common refl (λ one. let x = h one in omega (arith, x))

pub some_overlap : (ss : List Share) → Clash (owns ss) (length ss) → IsSome (overlap ss)
some_overlap [] h = absurd (omega (arith, h.0))
some_overlap (s ∷ ss) h = some_behind s ss s.common refl h.0 (omega (arith, h.1))

-- ---- the first overlap of pieces is the first clash of their intervals

no_overlap_at : (a : ℕ) (ps : List Piece) → NoClash (own_at (intervals ps) a) (all_at (intervals ps) a) → IsNone (overlap (shares ps a))
no_overlap_at a ps h = let n = counts a ps in no_overlap (shares ps a) (λ one. let x = h (omega (arith, one, n.1)) in omega (arith, x, n.0))

some_overlap_at : (a : ℕ) (ps : List Piece) → Clash (own_at (intervals ps) a) (all_at (intervals ps) a) → IsSome (overlap (shares ps a))
some_overlap_at a ps h = let n = counts a ps in some_overlap (shares ps a) (omega (arith, n.1, h.0), omega (arith, n.0, h.1))

pub first_overlaps : (ps : List Piece) (o : Option ℕ) → IsFirst (own_at (intervals ps)) (all_at (intervals ps)) o → IsFirstOverlap (shares ps) o
first_overlaps ps None h = λ a. no_overlap_at a ps (h a)
first_overlaps ps (Some x) h = (some_overlap_at x ps h.0, λ a lt. no_overlap_at a ps (h.1 a lt))

-- stretches with bytes have intervals with addresses
pub long_intervals : (ss : List Stretch) → All Lies ss → All (λ (i : Interval). i.first < i.end) (intervals (pieces ss))
long_intervals [] h = All-nil (λ (i : Interval). i.first < i.end)
long_intervals (s ∷ ss) h =
    let lies : Lies s = All-head Lies s ss h in
    All-cons (λ (i : Interval). i.first < i.end) (interval (piece s)) (intervals (pieces ss)) (omega (arith, lies.0)) (long_intervals ss (All-tail Lies s ss h))
