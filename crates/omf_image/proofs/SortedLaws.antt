-- Runs on one line: searching them, and the byte at a place.
use Rattle.std.proofs.Common.{◌≡◌, ◌⊎◌, inl, inr, ℕ, zero, suc, ◌+◌, ◌-◌, ◌*◌, ◌<◌, ◌≤◌, Bool, true, false, List, [], ◌∷◌, ◌++◌, length, map, take, drop, Option, Some, None, refl, sym, ◌∙◌, ap, subst, arith, get_or}
use Rattle.std.specs.Prelude.{IsSome, slice_get, filter_map, nat_lt, nat_le, ◌==◌, ◌&&◌, if◌then◌else◌}
use Rattle.std.specs.List.{last_or, cons_option}
use Rattle.std.specs.List.Sorted.{IsNonDecreasingBy}
use Rattle.std.specs.Option.{option_or, option_map}
use Rattle.std.proofs.lemmas.Bool.{eqb-true, eq-eqb, leb-true, le-leb, le-ltb, lt-leb, lt-ltb}
use Rattle.std.proofs.lemmas.Bool.Decides.{leb_tells}
use Rattle.std.proofs.lemmas.List.{drop-map, get_or_default}
use Rattle.std.proofs.lemmas.Option.{slice_get-map, slice_get_past, slice_get-get_or}
use Rattle.omf_frame.specs.Bytes.{last}
use Rattle.omf_image.specs.declared.image.Covered.{Covered}
use Rattle.omf_image.specs.Overlay.{Laid, byte_of, byte_at, AreRuns, AreBytesOver, IsRunAt, AreBytesAt}
use Rattle.omf_image.specs.Inner.Joined.{run_end}
use Rattle.omf_image.specs.Inner.Sorted.{laid_run, laid_runs, span, in_segment, line_place, low, high, AreSorted, EndBefore, EndFrom, BeginBy, BeginAfter}
use Rattle.omf_image.proofs.RunLaws.{within_some, byte_some, some_byte, Covers, AreApart, runs_of_apart}

pub sorted_from : (from more : ℕ) (ls : List Laid) → from ≤ more → AreSorted more ls → AreSorted from ls
sorted_from from more [] le h = tt
sorted_from from more (l ∷ ls) le (at, some, fits, others) = (omega (arith, le, at), some, fits, others)

pub sorted_drop : (from n : ℕ) (ls : List Laid) → AreSorted from ls → AreSorted from (drop n ls)
sorted_drop from zero ls h = h
sorted_drop from (suc n) [] h = tt
sorted_drop from (suc n) (l ∷ ls) (at, some, fits, others) = sorted_from from (high l + 1) (drop n ls) (omega (arith, at)) (sorted_drop (high l + 1) n ls others)

-- ---- searching

abbrev pub ends : Covered → ℕ
ends c = high (laid_run c)

abbrev pub begins : Covered → ℕ
begins c = low (laid_run c)

sorted_within : (from : ℕ) (cs : List Covered) (k : ℕ) (d : Covered) → AreSorted from (laid_runs cs) → k < length cs → (from ≤ begins (get_or cs k d)) × (from ≤ ends (get_or cs k d))
sorted_within from [] k d h lt = absurd (omega (arith, lt))
sorted_within from (c ∷ cs) zero d (at, some, fits, others) lt = (at, omega (arith, at))
sorted_within from (c ∷ cs) (suc k) d (at, some, fits, others) lt =
    let less : k < length cs = omega (arith, lt) in
    let more = sorted_within (ends c + 1) cs k d others less in
    (omega (arith, at, more), omega (arith, at, more))

-- the bounds of runs are in ascending order
rise_of : (of : Covered → ℕ) → ((c : Covered) → of c ≤ ends c + 1) → ((from : ℕ) (cs : List Covered) (k : ℕ) (d : Covered) → AreSorted from (laid_runs cs) → k < length cs → from ≤ of (get_or cs k d))
    → (from : ℕ) (cs : List Covered) → AreSorted from (laid_runs cs) → IsNonDecreasingBy of cs
rise_of of low more from [] h i j d le lt = absurd (omega (arith, lt))
rise_of of low more from (c ∷ cs) (at, some, fits, others) zero zero d le lt = omega arith
rise_of of low more from (c ∷ cs) (at, some, fits, others) zero (suc j) d le lt = omega (arith, low c, more (ends c + 1) cs j d others (omega (arith, lt)))
rise_of of low more from (c ∷ cs) (at, some, fits, others) (suc i) zero d le lt = absurd (omega (arith, le))
rise_of of low more from (c ∷ cs) (at, some, fits, others) (suc i) (suc j) d le lt = rise_of of low more (ends c + 1) cs others i j d (omega (arith, le)) (omega (arith, lt))

pub ends_rise : (from : ℕ) (cs : List Covered) → AreSorted from (laid_runs cs) → IsNonDecreasingBy ends cs
ends_rise = rise_of ends (λ c. omega arith) (λ from cs k d h lt. (sorted_within from cs k d h lt).1)

pub begins_rise : (from : ℕ) (cs : List Covered) → AreSorted from (laid_runs cs) → IsNonDecreasingBy begins cs
begins_rise = rise_of begins (λ c. omega arith) (λ from cs k d h lt. (sorted_within from cs k d h lt).0)

not_less : (a b : ℕ) → nat_lt a b ≡ false → b ≤ a
not_less a b e = elim (leb_tells (suc a) b) [ inl t ↦ absurd (let same = t.0 in cc) | inr t ↦ omega (arith, t.1) ]

not_le : (a b : ℕ) → nat_le a b ≡ false → b < a
not_le a b e = elim (leb_tells a b) [ inl t ↦ absurd (let same = t.0 in cc) | inr t ↦ omega (arith, t.1) ]

pub end_before : (at i : ℕ) (cs : List Covered) → ((k : ℕ) (d : Covered) → k < i → nat_lt (ends (get_or cs k d)) at ≡ true) → EndBefore at (take i (laid_runs cs))
end_before at zero cs h = tt
end_before at (suc i) [] h = tt
end_before at (suc i) (c ∷ cs) h = (leb-true (suc (ends c)) at (h zero c (omega arith)), end_before at i cs (λ k d lt. h (suc k) d (omega (arith, lt))))

pub end_from : (at i : ℕ) (cs : List Covered) → ((k : ℕ) (d : Covered) → i ≤ k → k < length cs → nat_lt (ends (get_or cs k d)) at ≡ false) → EndFrom at (drop i (laid_runs cs))
end_from at zero [] h = tt
end_from at zero (c ∷ cs) h = (not_less (ends c) at (h zero c (omega arith) (omega arith)), end_from at zero cs (λ k d le lt. h (suc k) d (omega arith) (omega (arith, lt))))
end_from at (suc i) [] h = tt
end_from at (suc i) (c ∷ cs) h = end_from at i cs (λ k d le lt. h (suc k) d (omega (arith, le)) (omega (arith, lt)))

pub begin_by : (at i : ℕ) (cs : List Covered) → ((k : ℕ) (d : Covered) → k < i → nat_le (begins (get_or cs k d)) at ≡ true) → BeginBy at (take i (laid_runs cs))
begin_by at zero cs h = tt
begin_by at (suc i) [] h = tt
begin_by at (suc i) (c ∷ cs) h = (leb-true (begins c) at (h zero c (omega arith)), begin_by at i cs (λ k d lt. h (suc k) d (omega (arith, lt))))

pub begin_after : (at i : ℕ) (cs : List Covered) → ((k : ℕ) (d : Covered) → i ≤ k → k < length cs → nat_le (begins (get_or cs k d)) at ≡ false) → BeginAfter at (drop i (laid_runs cs))
begin_after at zero [] h = tt
begin_after at zero (c ∷ cs) h = (not_le (begins c) at (h zero c (omega arith) (omega arith)), begin_after at zero cs (λ k d le lt. h (suc k) d (omega arith) (omega (arith, lt))))
begin_after at (suc i) [] h = tt
begin_after at (suc i) (c ∷ cs) h = begin_after at i cs (λ k d le lt. h (suc k) d (omega (arith, le)) (omega (arith, lt)))

pub not_none : (n : ℕ) → ((n ≡ 0) → ⊥) → n - 1 + 1 ≡ n
not_none zero h = absurd (h refl)
not_none (suc n) h = omega arith

-- one run bounds those before it and those after it
module _ (at k : ℕ) (cs : List Covered) (h : AreSorted 0 (laid_runs cs)) where
  module _ (c : Covered) (lt : k < length cs) (is : c ≡ get_or cs k c) where
    here : (d : Covered) → get_or cs k d ≡ c
    here d = get_or_default cs k d c lt ∙ sym is

    pub run_from : at ≤ ends c → EndFrom at (drop k (laid_runs cs))
    run_from le = end_from at k cs (λ j d i within.
        let rise = ends_rise 0 cs h k j d i within in
        le-ltb (ends (get_or cs j d)) at (omega (arith, le, rise, ap ends (here d))))

    pub run_before : ends c < at → EndBefore at (take (k + 1) (laid_runs cs))
    run_before less = end_before at (k + 1) cs (λ j d i.
        let rise = ends_rise 0 cs h j k d (omega (arith, i)) lt in
        lt-ltb (ends (get_or cs j d)) at (omega (arith, less, rise, ap ends (here d))))

    pub run_after : at < begins c → BeginAfter at (drop k (laid_runs cs))
    run_after less = begin_after at k cs (λ j d i within.
        let rise = begins_rise 0 cs h k j d i within in
        lt-leb (begins (get_or cs j d)) at (omega (arith, less, rise, ap begins (here d))))

    pub run_by : begins c ≤ at → BeginBy at (take (k + 1) (laid_runs cs))
    run_by le = begin_by at (k + 1) cs (λ j d i.
        let rise = begins_rise 0 cs h j k d (omega (arith, i)) lt in
        le-leb (begins (get_or cs j d)) at (omega (arith, le, rise, ap begins (here d))))

  pub none_from : length cs ≤ k → EndFrom at (drop k (laid_runs cs))
  none_from le = end_from at k cs (λ j d i within. absurd (omega (arith, le, i, within)))

  pub none_after : length cs ≤ k → BeginAfter at (drop k (laid_runs cs))
  none_after le = begin_after at k cs (λ j d i within. absurd (omega (arith, le, i, within)))

-- ---- the byte at a place

pub option_or-none : {A : Type 0} (o : Option A) → option_or o None ≡ o
option_or-none None = refl
option_or-none (Some x) = refl

pub option_or-some : {A : Type 0} (o p : Option A) → IsSome o → option_or o p ≡ o
option_or-some None p h = absurd cc
option_or-some (Some x) p h = refl

pub option_or-assoc : {A : Type 0} (o p q : Option A) → option_or (option_or o p) q ≡ option_or o (option_or p q)
option_or-assoc None p q = refl
option_or-assoc (Some x) p q = refl

pub no_byte : {A : Type 0} (o : Option A) → (IsSome o → ⊥) → o ≡ None
no_byte None h = refl
no_byte (Some x) h = absurd (h refl)

last_or_some : {A : Type 0} (x : A) (xs : List A) → last_or (Some x) xs ≡ option_or (last xs) (Some x)
last_or_some x [] = refl
last_or_some x (y ∷ xs) = sym (option_or-some (last_or (Some y) xs) (Some x) (subst IsSome (sym (last_or_some y xs)) (some_left y (last xs))))
  where
    some_left : {A : Type 0} (y : A) (o : Option A) → IsSome (option_or o (Some y))
    some_left y None = refl
    some_left y (Some x) = refl

last_first : {A : Type 0} (o : Option A) (xs : List A) → last (cons_option o xs) ≡ option_or (last xs) o
last_first None xs = sym (option_or-none (last xs))
last_first (Some x) xs = last_or_some x xs

pub byte_first : (l : Laid) (ls : List Laid) (segment x : ℕ) → byte_at (l ∷ ls) segment x ≡ option_or (byte_at ls segment x) (byte_of segment x l)
byte_first l ls segment x = last_first (byte_of segment x l) (filter_map (byte_of segment x) ls)

pub byte_append : (ls ms : List Laid) (segment x : ℕ) → byte_at (ls ++ ms) segment x ≡ option_or (byte_at ms segment x) (byte_at ls segment x)
byte_append [] ms segment x = sym (option_or-none (byte_at ms segment x))
byte_append (l ∷ ls) ms segment x =
    byte_first l (ls ++ ms) segment x ∙ ap (λ o. option_or o (byte_of segment x l)) (byte_append ls ms segment x)
    ∙ option_or-assoc (byte_at ms segment x) (byte_at ls segment x) (byte_of segment x l)
    ∙ ap (λ o. option_or (byte_at ms segment x) o) (sym (byte_first l ls segment x))

pub covered_place : (segment x : ℕ) (l : Laid) → IsSome (byte_of segment x l) → (low l ≤ line_place segment x) × (line_place segment x < high l)
covered_place segment x l h =
    let i = byte_some segment x l h in
    let same : l.segment ≡ segment = i.0 in
    (omega (arith, same, i.1), omega (arith, same, i.1))

pub none_low : (segment x : ℕ) (l : Laid) → line_place segment x < low l → byte_of segment x l ≡ None
none_low segment x l lt = no_byte (byte_of segment x l) (λ h. let i = covered_place segment x l h in omega (arith, lt, i))

pub none_high : (segment x : ℕ) (l : Laid) → high l ≤ line_place segment x → byte_of segment x l ≡ None
none_high segment x l le = no_byte (byte_of segment x l) (λ h. let i = covered_place segment x l h in omega (arith, le, i))

-- nothing is covered before the runs
pub none_before : (from : ℕ) (ls : List Laid) (segment x : ℕ) → AreSorted from ls → line_place segment x < from → byte_at ls segment x ≡ None
none_before from [] segment x h lt = refl
none_before from (l ∷ ls) segment x (at, some, fits, others) lt =
    byte_first l ls segment x
    ∙ ap (λ o. option_or o (byte_of segment x l)) (none_before (high l + 1) ls segment x others (omega (arith, lt, at)))
    ∙ none_low segment x l (omega (arith, lt, at))

-- ---- one byte

abbrev pub byte_if : ℕ → ℕ → Option Laid → Option ℕ
byte_if segment x None = None
byte_if segment x (Some l) = byte_of segment x l

pub found_byte : (from : ℕ) (ls : List Laid) (k segment x : ℕ) → AreSorted from ls → EndBefore (line_place segment x + 1) (take k ls) → EndFrom (line_place segment x + 1) (drop k ls)
    → byte_if segment x (slice_get ls k) ≡ byte_at ls segment x
found_byte from [] k segment x h b f = refl
found_byte from (l ∷ ls) zero segment x (at, some, fits, others) b (f, fs) =
    sym (byte_first l ls segment x ∙ ap (λ o. option_or o (byte_of segment x l)) (none_before (high l + 1) ls segment x others (omega (arith, f))))
found_byte from (l ∷ ls) (suc k) segment x (at, some, fits, others) (b, bs) f =
    found_byte (high l + 1) ls k segment x others bs f
    ∙ sym (option_or-none (byte_at ls segment x))
    ∙ ap (λ o. option_or (byte_at ls segment x) o) (sym (none_high segment x l (omega (arith, b))))
    ∙ sym (byte_first l ls segment x)

-- ---- the runs of one segment

abbrev pub if_in : ℕ → Option Laid → Option Laid
if_in segment None = None
if_in segment (Some l) = if l.segment == segment then Some l else None

pub differs : (a b : ℕ) → ((a ≡ b) → ⊥) → a == b ≡ false
differs a b h = by (a == b) refl
  where
    by : (t : Bool) → a == b ≡ t → a == b ≡ false
    by true e = absurd (h (eqb-true a b e))
    by false e = e

-- no run after a segment's last is in it
none_in : (from segment : ℕ) (ls : List Laid) → AreSorted from ls → (segment + 1) * 8589934592 ≤ from → in_segment segment ls ≡ []
none_in from segment [] h le = refl
none_in from segment (l ∷ ls) (at, some, fits, others) le =
    let other = differs l.segment segment (λ e. let same : l.segment ≡ segment = e in omega (arith, same, at, fits, le)) in
    ap (λ b. if b then l ∷ in_segment segment ls else in_segment segment ls) other ∙ none_in (high l + 1) segment ls others (omega (arith, at, le))

none_if : (from segment k : ℕ) (ls : List Laid) → AreSorted from ls → (segment + 1) * 8589934592 ≤ from → if_in segment (slice_get ls k) ≡ None
none_if from segment k [] h le = refl
none_if from segment zero (l ∷ ls) (at, some, fits, others) le =
    let other = differs l.segment segment (λ e. let same : l.segment ≡ segment = e in omega (arith, same, at, fits, le)) in
    ap (λ b. if b then Some l else None) other
none_if from segment (suc k) (l ∷ ls) (at, some, fits, others) le = none_if (high l + 1) segment k ls others (omega (arith, at, le))

-- the runs from the first of a segment on
from_first : (from segment k : ℕ) (ls : List Laid) → AreSorted from ls → EndFrom (line_place segment 0) ls → if_in segment (slice_get ls k) ≡ slice_get (in_segment segment ls) k
from_first from segment k [] h f = refl
from_first from segment k (l ∷ ls) (at, some, fits, others) (f, fs) = by (λ n. from_first (high l + 1) segment n ls others fs) (l.segment == segment) refl
  where
    behind : (l.segment ≡ segment → ⊥) → (segment + 1) * 8589934592 ≤ low l
    behind ne = elim (leb_tells (suc segment) l.segment) [
      | inl t ↦ omega (arith, t.1)
      | inr t ↦ elim (leb_tells segment l.segment) [ inl u ↦ absurd (ne (omega (arith, t.1, u.1))) | inr u ↦ absurd (omega (arith, u.1, fits, f)) ]
    ]

    here : ((n : ℕ) → if_in segment (slice_get ls n) ≡ slice_get (in_segment segment ls) n) → (k : ℕ) → l.segment == segment ≡ true
        → if_in segment (slice_get (l ∷ ls) k) ≡ slice_get (l ∷ in_segment segment ls) k
    here again zero e = ap (λ b. if b then Some l else None) e
    here again (suc k) e = again k

    by : ((n : ℕ) → if_in segment (slice_get ls n) ≡ slice_get (in_segment segment ls) n) → (b : Bool) → l.segment == segment ≡ b → if_in segment (slice_get (l ∷ ls) k) ≡ slice_get (if b then l ∷ in_segment segment ls else in_segment segment ls) k
    by again true e = here again k e
    by again false e =
        let ne : l.segment ≡ segment → ⊥ = λ q. let same = eq-eqb l.segment segment q in cc in
        let sorted : AreSorted (low l) (l ∷ ls) = (omega arith, some, fits, others) in
        none_if (low l) segment k (l ∷ ls) sorted (behind ne)
        ∙ sym (ap (λ z. slice_get z k) (none_in (high l + 1) segment ls others (let b = behind ne in omega (arith, b))))

pub found_run : (from start segment k : ℕ) (ls : List Laid) → AreSorted from ls → EndBefore (line_place segment 0) (take start ls) → EndFrom (line_place segment 0) (drop start ls)
    → if_in segment (slice_get (drop start ls) k) ≡ slice_get (in_segment segment ls) k
found_run from zero segment k ls h b f = from_first from segment k ls h f
found_run from (suc start) segment k [] h b f = refl
found_run from (suc start) segment k (l ∷ ls) (at, some, fits, others) (b, bs) f =
    let other = differs l.segment segment (λ e. let same : l.segment ≡ segment = e in omega (arith, same, b)) in
    found_run (high l + 1) start segment k ls others bs f ∙ sym (ap (λ t. slice_get (if t then l ∷ in_segment segment ls else in_segment segment ls) k) other)

-- ---- the runs of a segment are the maximal covered intervals

runs_apart : (from at segment : ℕ) (ls : List Laid) → AreSorted from ls → ((x : ℕ) → from ≤ line_place segment x → at ≤ x) → AreApart at (map span (in_segment segment ls))
runs_apart from at segment [] h le = tt
runs_apart from at segment (l ∷ ls) (begin, some, fits, others) le =
    by (λ a h. runs_apart (high l + 1) a segment ls others h) (l.segment == segment) refl
  where
    by : ((a : ℕ) → ((x : ℕ) → high l + 1 ≤ line_place segment x → a ≤ x) → AreApart a (map span (in_segment segment ls))) → (b : Bool) → l.segment == segment ≡ b
        → AreApart at (map span (if b then l ∷ in_segment segment ls else in_segment segment ls))
    by again true e =
        let same : l.segment ≡ segment = eqb-true l.segment segment e in
        (le l.offset (omega (arith, same, begin)), some, again (suc (run_end (span l))) (λ x h. omega (arith, same, h)))
    by again false e = again at (λ x h. le x (omega (arith, h, begin)))

pub or_left : {A : Type 0} (o p : Option A) → IsSome o → IsSome (option_or o p)
or_left None p h = absurd cc
or_left (Some x) p h = refl

pub or_right : {A : Type 0} (o p : Option A) → IsSome p → IsSome (option_or o p)
or_right None p h = h
or_right (Some x) p h = refl

pub or_either : {A : Type 0} (o p : Option A) → IsSome (option_or o p) → IsSome o ⊎ IsSome p
or_either None p h = inr h
or_either (Some x) p h = inl refl

runs_covered : (segment x : ℕ) (ls : List Laid) → Covers (map span (in_segment segment ls)) x → IsSome (byte_at ls segment x)
runs_covered segment x [] c = absurd c
runs_covered segment x (l ∷ ls) c = subst IsSome (sym (byte_first l ls segment x)) (by (λ d. runs_covered segment x ls d) (l.segment == segment) refl c)
  where
    by : (Covers (map span (in_segment segment ls)) x → IsSome (byte_at ls segment x)) → (b : Bool) → l.segment == segment ≡ b → Covers (map span (if b then l ∷ in_segment segment ls else in_segment segment ls)) x → IsSome (option_or (byte_at ls segment x) (byte_of segment x l))
    by again true e (inl i) = or_right (byte_at ls segment x) (byte_of segment x l) (some_byte segment x l (eqb-true l.segment segment e) i)
    by again true e (inr d) = or_left (byte_at ls segment x) (byte_of segment x l) (again d)
    by again false e d = or_left (byte_at ls segment x) (byte_of segment x l) (again d)

covered_runs : (segment x : ℕ) (ls : List Laid) → IsSome (byte_at ls segment x) → Covers (map span (in_segment segment ls)) x
covered_runs segment x [] h = absurd cc
covered_runs segment x (l ∷ ls) h = by (λ s. covered_runs segment x ls s) (l.segment == segment) refl (or_either (byte_at ls segment x) (byte_of segment x l) (subst IsSome (byte_first l ls segment x) h))
  where
    by : (IsSome (byte_at ls segment x) → Covers (map span (in_segment segment ls)) x) → (b : Bool) → l.segment == segment ≡ b → IsSome (byte_at ls segment x) ⊎ IsSome (byte_of segment x l) → Covers (map span (if b then l ∷ in_segment segment ls else in_segment segment ls)) x
    by again true e (inl s) = inr (again s)
    by again true e (inr s) = inl (byte_some segment x l s).1
    by again false e (inl s) = again s
    by again false e (inr s) = let q = eq-eqb l.segment segment (byte_some segment x l s).0 in absurd cc

pub sorted_runs : (segment : ℕ) (ls : List Laid) → AreSorted 0 ls → AreRuns (byte_at ls segment) (map span (in_segment segment ls))
sorted_runs segment ls h =
    runs_of_apart (byte_at ls segment) (map span (in_segment segment ls)) (runs_apart 0 0 segment ls h (λ x le. omega arith))
    (λ x c. runs_covered segment x ls c) (λ x s. covered_runs segment x ls s)

bytes_here : (segment i : ℕ) (l : Laid) → l.segment ≡ segment → i < length l.bytes → byte_of segment (l.offset + i) l ≡ slice_get l.bytes i
bytes_here segment i l e lt =
    let from : l.offset ≤ l.offset + i = omega arith in
    let at : l.offset + i - l.offset ≡ i = omega arith in
    ap (λ b. if b && nat_le l.offset (l.offset + i) then slice_get l.bytes (l.offset + i - l.offset) else None) (eq-eqb l.segment segment e)
    ∙ ap (λ b. if b then slice_get l.bytes (l.offset + i - l.offset) else None) (le-leb l.offset (l.offset + i) from)
    ∙ ap (λ n. slice_get l.bytes n) at

pub some_is : {A : Type 0} (x y : A) → Some x ≡ Some y → x ≡ y
some_is x y e = cc

-- the bytes of a run are those at its places
run_each : (from segment k : ℕ) (ls : List Laid) (l : Laid) → AreSorted from ls → slice_get (in_segment segment ls) k ≡ Some l → (i : ℕ) → i < length l.bytes
    → byte_at ls segment (l.offset + i) ≡ slice_get l.bytes i
run_each from segment k [] l h e i lt = absurd cc
run_each from segment k (m ∷ ls) l (at, some, fits, others) e i lt =
    byte_first m ls segment (l.offset + i) ∙ by (λ n f. run_each (high m + 1) segment n ls l others f i lt) (m.segment == segment) refl k e
  where
    later : byte_at ls segment (l.offset + i) ≡ slice_get l.bytes i → option_or (byte_at ls segment (l.offset + i)) (byte_of segment (l.offset + i) m) ≡ slice_get l.bytes i
    later e = ap (λ o. option_or o (byte_of segment (l.offset + i) m)) e ∙ option_or-some (slice_get l.bytes i) (byte_of segment (l.offset + i) m) (within_some l.bytes i lt)

    here : m.segment ≡ segment → m ≡ l → option_or (byte_at ls segment (l.offset + i)) (byte_of segment (l.offset + i) m) ≡ slice_get l.bytes i
    here same q =
        let q0 : l.segment ≡ segment = subst (λ t. t.segment ≡ segment) q same in
        let q1 : low m ≡ low l = ap (λ t. low t) q in
        let q2 : length m.bytes ≡ length l.bytes = ap (λ t. length t.bytes) q in
        ap (λ o. option_or o (byte_of segment (l.offset + i) m)) (none_before (high m + 1) ls segment (l.offset + i) others (omega (arith, q0, q1, q2, lt)))
        ∙ ap (λ t. byte_of segment (l.offset + i) t) q ∙ bytes_here segment i l q0 lt

    by : ((n : ℕ) → slice_get (in_segment segment ls) n ≡ Some l → byte_at ls segment (l.offset + i) ≡ slice_get l.bytes i)
        → (b : Bool) → m.segment == segment ≡ b → (k : ℕ) → slice_get (if b then m ∷ in_segment segment ls else in_segment segment ls) k ≡ Some l
        → option_or (byte_at ls segment (l.offset + i)) (byte_of segment (l.offset + i) m) ≡ slice_get l.bytes i
    by again true s zero f = here (eqb-true m.segment segment s) (some_is m l f)
    by again true s (suc k) f = later (again k f)
    by again false s k f = later (again k f)

pub run_bytes_over : (segment k : ℕ) (ls : List Laid) (l : Laid) → AreSorted 0 ls → slice_get (in_segment segment ls) k ≡ Some l → AreBytesOver (byte_at ls segment) (span l) l.bytes
run_bytes_over segment k ls l h e = record { long = refl; each = λ i lt. run_each 0 segment k ls l h e i lt }

-- ---- the results of the calls

at_rest : (start k : ℕ) (cs rest : List Covered) → rest ≡ drop start cs → option_map laid_run (slice_get rest k) ≡ slice_get (drop start (laid_runs cs)) k
at_rest start k cs rest e = sym (slice_get-map laid_run rest k) ∙ ap (λ z. slice_get z k) (ap laid_runs e ∙ sym (drop-map laid_run start cs))

module _ (start segment k : ℕ) (cs rest : List Covered) (is : rest ≡ drop start cs) (h : AreSorted 0 (laid_runs cs))
    (b : EndBefore (line_place segment 0) (take start (laid_runs cs))) (f : EndFrom (line_place segment 0) (drop start (laid_runs cs))) where
  pub run_found : (c : Covered) → k < length rest → c ≡ get_or rest k c → if_in segment (Some (laid_run c)) ≡ slice_get (in_segment segment (laid_runs cs)) k
  run_found c lt e =
      let got : slice_get rest k ≡ Some c = slice_get-get_or rest k c lt ∙ ap (λ z. Some z) (sym e) in
      ap (if_in segment) (sym (ap (option_map laid_run) got) ∙ at_rest start k cs rest is) ∙ found_run 0 start segment k (laid_runs cs) h b f

  pub run_missed : length rest ≤ k → None ≡ slice_get (in_segment segment (laid_runs cs)) k
  run_missed le =
      ap (if_in segment) (sym (ap (option_map laid_run) (slice_get_past rest k le)) ∙ at_rest start k cs rest is) ∙ found_run 0 start segment k (laid_runs cs) h b f

module _ (segment x k : ℕ) (cs : List Covered) (h : AreSorted 0 (laid_runs cs))
    (b : EndBefore (line_place segment x + 1) (take k (laid_runs cs))) (f : EndFrom (line_place segment x + 1) (drop k (laid_runs cs))) where
  pub byte_found : (c : Covered) → k < length cs → c ≡ get_or cs k c → byte_of segment x (laid_run c) ≡ byte_at (laid_runs cs) segment x
  byte_found c lt e =
      let got : slice_get cs k ≡ Some c = slice_get-get_or cs k c lt ∙ ap (λ z. Some z) (sym e) in
      ap (byte_if segment x) (sym (ap (option_map laid_run) got) ∙ sym (slice_get-map laid_run cs k)) ∙ found_byte 0 (laid_runs cs) k segment x h b f

  pub byte_missed : length cs ≤ k → None ≡ byte_at (laid_runs cs) segment x
  byte_missed le =
      ap (byte_if segment x) (sym (ap (option_map laid_run) (slice_get_past cs k le)) ∙ sym (slice_get-map laid_run cs k)) ∙ found_byte 0 (laid_runs cs) k segment x h b f

pub run_at_is : (segment k : ℕ) (ls : List Laid) (found : Option Laid) → AreSorted 0 ls → found ≡ slice_get (in_segment segment ls) k → IsRunAt (byte_at ls segment) k (option_map span found)
run_at_is segment k ls found h e = (map span (in_segment segment ls), sorted_runs segment ls h, ap (option_map span) e ∙ sym (slice_get-map span (in_segment segment ls) k))

pub bytes_at_is : (segment k : ℕ) (ls : List Laid) (found : Option Laid) → AreSorted 0 ls → found ≡ slice_get (in_segment segment ls) k
    → AreBytesAt (byte_at ls segment) k (option_map (λ l. l.bytes) found)
bytes_at_is segment k ls None h e = (None, run_at_is segment k ls None h e, refl)
bytes_at_is segment k ls (Some l) h e = (Some (span l), run_at_is segment k ls (Some l) h e, (l.bytes, refl, run_bytes_over segment k ls l h (sym e)))

pub run_fits : (from segment k : ℕ) (ls : List Laid) (l : Laid) → AreSorted from ls → slice_get (in_segment segment ls) k ≡ Some l → l.offset + length l.bytes ≤ 4294967296
run_fits from segment k [] l h e = absurd cc
run_fits from segment k (m ∷ ls) l (at, some, fits, others) e = by (λ n f. run_fits (high m + 1) segment n ls l others f) (m.segment == segment) k e
  where
    by : ((n : ℕ) → slice_get (in_segment segment ls) n ≡ Some l → l.offset + length l.bytes ≤ 4294967296)
        → (b : Bool) → (k : ℕ) → slice_get (if b then m ∷ in_segment segment ls else in_segment segment ls) k ≡ Some l → l.offset + length l.bytes ≤ 4294967296
    by again true zero f = subst (λ t. t.offset + length t.bytes ≤ 4294967296) (some_is m l f) fits
    by again true (suc k) f = again k f
    by again false k f = again k f
