-- A sweep over intervals in rising order.
use Rattle.std.proofs.Common.{◌≡◌, ℕ, ◌+◌, ◌<◌, ◌≤◌, suc, List, [], ◌∷◌, refl, sym, arith, max, Bool, true, false, cond, ◌&&◌, nat_le, nat_lt, if◌then◌else◌, Option, Some, None, subst}
use Rattle.std.proofs.lemmas.Bool.Decides.{nat_tests}
use Rattle.std.specs.Prelude.{⊤, sum_by, All}
use Rattle.std.specs.List.Sorted.{IsPermutation, IsNonDecreasingBy}
use Rattle.std.proofs.lemmas.List.Sums.{sum_by-cons}
use Rattle.std.proofs.lemmas.List.Sorted.{sum_by-IsPermutation}
use Rattle.std.proofs.lemmas.List.Elements.{All-head, All-tail}
use Rattle.omf_linking.specs.Inner.Sweeping.{swept}
use Rattle.omf_linking.specs.declared.space.sweep.Interval.{Interval}

-- whether an interval has an address, as a number; and the same of one that is not common
abbrev pub within : ℕ → Interval → ℕ
within a i = cond (nat_le i.first a && nat_lt a i.end) 1 0

abbrev pub own : ℕ → Interval → ℕ
own a i = cond i.common 0 (within a i)

-- the number of intervals with an address, and of those that are not common
abbrev pub all_at : List Interval → ℕ → ℕ
all_at is a = sum_by (within a) is

abbrev pub own_at : List Interval → ℕ → ℕ
own_at is a = sum_by (own a) is

-- two of these overlap that may not
abbrev pub Clash : ℕ → ℕ → Type 0
Clash p c = (1 ≤ p) × (2 ≤ c)

abbrev pub NoClash : ℕ → ℕ → Type 0
NoClash p c = 1 ≤ p → c < 2

-- the first address of a clash, by the numbers at each address
abbrev pub IsFirst : (ℕ → ℕ) → (ℕ → ℕ) → Option ℕ → Type 0
IsFirst p c None = (a : ℕ) → NoClash (p a) (c a)
IsFirst p c (Some x) = Clash (p x) (c x) × ((a : ℕ) → a < x → NoClash (p a) (c a))

same_first : (p q c d : ℕ → ℕ) → ((a : ℕ) → p a ≡ q a) → ((a : ℕ) → c a ≡ d a) → (o : Option ℕ) → IsFirst p c o → IsFirst q d o
same_first p q c d e f None h = λ a one. let n = h a in grind (arith, e a, f a, n)
same_first p q c d e f (Some x) h = (
  (omega (arith, e x, h.0.0), omega (arith, f x, h.0.1)),
  λ a lt one. let n = h.1 a lt in grind (arith, e a, f a, n),
)

-- ---- one interval

pub before : (a : ℕ) (i : Interval) → a < i.first → within a i ≡ 0
before a i h = let e : nat_le i.first a ≡ false = grind (arith, nat_tests) in rw e refl

and_false : (b : Bool) → cond {A = ℕ} (b && false) 1 0 ≡ 0
and_false true = refl
and_false false = refl

pub after : (a : ℕ) (i : Interval) → i.end ≤ a → within a i ≡ 0
after a i h = let e : nat_lt a i.end ≡ false = grind (arith, nat_tests) in rw e (and_false (nat_le i.first a))

pub inside : (a : ℕ) (i : Interval) → i.first ≤ a → a < i.end → within a i ≡ 1
inside a i h k = let e : nat_le i.first a ≡ true = grind (arith, nat_tests) in let f : nat_lt a i.end ≡ true = grind (arith, nat_tests) in rw (e, f) refl

-- ---- the intervals so far, by the numbers at each address

record SoFar (last_own last_all low : ℕ) (p c : ℕ → ℕ) : Type 0 where
  own_past : (a : ℕ) → last_own ≤ a → p a ≡ 0
  own_here : (a : ℕ) → low ≤ a → a < last_own → 1 ≤ p a
  all_past : (a : ℕ) → last_all ≤ a → c a ≡ 0
  all_here : (a : ℕ) → low ≤ a → a < last_all → 1 ≤ c a
  fewer : (a : ℕ) → p a ≤ c a
  apart : (a : ℕ) → NoClash (p a) (c a)

module _ (o n low : ℕ) (p c : ℕ → ℕ) (i : Interval) (rises : low ≤ i.first) (long : i.first < i.end) (h : SoFar o n low p c) where
  -- one more that is common, or not
  with_common : o ≤ i.first → SoFar o (max n i.end) i.first p (λ a. c a + within a i)
  with_common free = record {
    own_past = h.own_past;
    own_here = λ a from to. h.own_here a (omega arith) to;
    all_past = λ a from. let x = h.all_past a in let y = after a i in grind (arith, x, y);
    all_here = λ a from to. let x = h.all_here a in let y = inside a i in grind (arith, x, y);
    fewer = λ a. let x = h.fewer a in omega (arith, x);
    apart = λ a one. let x = h.own_past a in let y = before a i in let z = h.apart a one in grind (arith, x, y, z);
  }

  with_own : n ≤ i.first → SoFar (max o i.end) (max n i.end) i.first (λ a. p a + within a i) (λ a. c a + within a i)
  with_own free = record {
    own_past = λ a from. let x = h.own_past a in let y = after a i in grind (arith, x, y);
    own_here = λ a from to. let x = h.own_here a in let y = inside a i in grind (arith, x, y);
    all_past = λ a from. let x = h.all_past a in let y = after a i in grind (arith, x, y);
    all_here = λ a from to. let x = h.all_here a in let y = inside a i in grind (arith, x, y);
    fewer = λ a. let x = h.fewer a in omega (arith, x);
    apart = λ a one. let x = h.all_past a in let y = before a i in let z = h.apart a in let b = after a i in let d = inside a i in grind (arith, x, y, z, b, d);
  }

-- ---- intervals in rising order, none of them empty

abbrev pub Rises : ℕ → List Interval → Type 0
Rises low [] = ⊤
Rises low (i ∷ is) = (low ≤ i.first) × (i.first < i.end) × Rises i.first is

own_cons : (a : ℕ) (i : Interval) (is : List Interval) → own_at (i ∷ is) a ≡ own a i + own_at is a
own_cons a i is = sum_by-cons (own a) i is

all_cons : (a : ℕ) (i : Interval) (is : List Interval) → all_at (i ∷ is) a ≡ within a i + all_at is a
all_cons a i is = sum_by-cons (within a) i is

own_least : (b : Bool) (n : ℕ) → cond b 0 n ≤ n
own_least true n = omega arith
own_least false n = omega arith

none_before : (low : ℕ) (is : List Interval) → Rises low is → (a : ℕ) → a < low → (own_at is a ≡ 0) × (all_at is a ≡ 0)
none_before low [] r a lt = (refl, refl)
none_before low (i ∷ is) r a lt =
    let rest = none_before i.first is r.2 a (omega (arith, r.0)) in
    let none = before a i (omega (arith, r.0)) in
    let few = own_least i.common (within a i) in
    (omega (arith, own_cons a i is, rest.0, none, few), omega (arith, all_cons a i is, rest.1, none))

module _ (o n low : ℕ) (p c : ℕ → ℕ) (i : Interval) (is : List Interval) (r : Rises low (i ∷ is)) (h : SoFar o n low p c) where
  abbrev Answers : Option ℕ → Type 0
  Answers x = IsFirst (λ a. p a + own_at (i ∷ is) a) (λ a. c a + all_at (i ∷ is) a) x

  ahead : (a : ℕ) → a < i.first → NoClash (p a + own_at (i ∷ is) a) (c a + all_at (i ∷ is) a)
  ahead a lt one =
      let none = none_before i.first (i ∷ is) (omega arith, r.1, r.2) a lt in
      let x = h.apart a in
      grind (arith, none.0, none.1, x)

  here : within i.first i ≡ 1
  here = inside i.first i (omega arith) r.1

  step_common : i.common ≡ true → (o ≤ i.first → IsFirst (λ a. p a + own_at is a) (λ a. (c a + within a i) + all_at is a) (swept o (max n i.end) is))
      → (t : Bool) → nat_lt i.first o ≡ t → Answers (if t then Some i.first else swept o (max n i.end) is)
  step_common e rest true t =
      let lt : i.first < o = grind (arith, nat_tests) in
      let some = h.own_here i.first r.0 lt in
      let few = h.fewer i.first in
      ((omega (arith, some), omega (arith, some, few, here, all_cons i.first i is)), ahead)
  step_common e rest false t =
      let free : o ≤ i.first = grind (arith, nat_tests) in
      let none : (a : ℕ) → own a i ≡ 0 = λ a. rw e refl in
      same_first (λ a. p a + own_at is a) (λ a. p a + own_at (i ∷ is) a) (λ a. (c a + within a i) + all_at is a) (λ a. c a + all_at (i ∷ is) a)
      (λ a. omega (arith, own_cons a i is, none a)) (λ a. omega (arith, all_cons a i is)) (swept o (max n i.end) is) (rest free)

  step_own : i.common ≡ false → (n ≤ i.first → IsFirst (λ a. (p a + within a i) + own_at is a) (λ a. (c a + within a i) + all_at is a) (swept (max o i.end) (max n i.end) is))
      → (t : Bool) → nat_lt i.first n ≡ t → Answers (if t then Some i.first else swept (max o i.end) (max n i.end) is)
  step_own e rest true t =
      let lt : i.first < n = grind (arith, nat_tests) in
      let some = h.all_here i.first r.0 lt in
      let one : own i.first i ≡ within i.first i = rw e refl in
      ((omega (arith, here, one, own_cons i.first i is), omega (arith, some, here, all_cons i.first i is)), ahead)
  step_own e rest false t =
      let free : n ≤ i.first = grind (arith, nat_tests) in
      let one : (a : ℕ) → own a i ≡ within a i = λ a. rw e refl in
      same_first (λ a. (p a + within a i) + own_at is a) (λ a. p a + own_at (i ∷ is) a) (λ a. (c a + within a i) + all_at is a) (λ a. c a + all_at (i ∷ is) a)
      (λ a. omega (arith, own_cons a i is, one a)) (λ a. omega (arith, all_cons a i is)) (swept (max o i.end) (max n i.end) is) (rest free)

  abbrev answer : Bool → Option ℕ
  answer b = if nat_lt i.first (if b then o else n) then Some i.first else swept (if b then o else max o i.end) (max n i.end) is

  step : (b : Bool) → i.common ≡ b
      → (o ≤ i.first → IsFirst (λ a. p a + own_at is a) (λ a. (c a + within a i) + all_at is a) (swept o (max n i.end) is))
      → (n ≤ i.first → IsFirst (λ a. (p a + within a i) + own_at is a) (λ a. (c a + within a i) + all_at is a) (swept (max o i.end) (max n i.end) is))
      → Answers (swept o n (i ∷ is))
  step true e common other = subst (λ (b : Bool). Answers (answer b)) (sym e) (step_common e common (nat_lt i.first o) refl)
  step false e common other = subst (λ (b : Bool). Answers (answer b)) (sym e) (step_own e other (nat_lt i.first n) refl)

first_from : (o n low : ℕ) (p c : ℕ → ℕ) (is : List Interval) → Rises low is → SoFar o n low p c → IsFirst (λ a. p a + own_at is a) (λ a. c a + all_at is a) (swept o n is)
first_from o n low p c [] r h = λ a one. let x = h.apart a in grind (arith, x)
first_from o n low p c (i ∷ is) r h =
    step o n low p c i is r h i.common refl
    (λ free. first_from o (max n i.end) i.first p (λ a. c a + within a i) is r.2 (with_common o n low p c i r.0 r.1 h free))
    (λ free. first_from (max o i.end) (max n i.end) i.first (λ a. p a + within a i) (λ a. c a + within a i) is r.2 (with_own o n low p c i r.0 r.1 h free))

-- a sweep over intervals in rising order finds the first address of a clash
pub sweep_finds : (is : List Interval) → Rises 0 is → IsFirst (own_at is) (all_at is) (swept 0 0 is)
sweep_finds is r =
    let start : SoFar 0 0 0 (λ a. 0) (λ a. 0) = record {
      own_past = λ a h. refl;
      own_here = λ a h lt. absurd (omega (arith, lt));
      all_past = λ a h. refl;
      all_here = λ a h lt. absurd (omega (arith, lt));
      fewer = λ a. omega arith;
      apart = λ a one. omega arith;
    } in
    same_first (λ a. 0 + own_at is a) (own_at is) (λ a. 0 + all_at is a) (all_at is) (λ a. omega arith) (λ a. omega arith) (swept 0 0 is) (first_from 0 0 0 (λ a. 0) (λ a. 0) is r start)

-- the same of intervals in any order, by the sweep over them in rising order
pub sorted_finds : (is sorted : List Interval) → IsPermutation is sorted → Rises 0 sorted → IsFirst (own_at is) (all_at is) (swept 0 0 sorted)
sorted_finds is sorted s r =
    same_first (own_at sorted) (own_at is) (all_at sorted) (all_at is) (λ a. sum_by-IsPermutation (own a) is sorted s) (λ a. sum_by-IsPermutation (within a) is sorted s) (swept 0 0 sorted) (sweep_finds sorted r)

-- sorted by their first addresses they rise
rises_from : (low : ℕ) (is : List Interval) → IsNonDecreasingBy (λ i. i.first) is → All (λ i. i.first < i.end) is → ((i : Interval) (more : List Interval) → is ≡ i ∷ more → low ≤ i.first) → Rises low is
rises_from low [] up long above = tt
rises_from low (i ∷ []) up long above = (above i [] refl, All-head (λ i. i.first < i.end) i [] long, tt)
rises_from low (i ∷ j ∷ is) up long above = (
  above i (j ∷ is) refl,
  All-head (λ i. i.first < i.end) i (j ∷ is) long,
  rises_from i.first (j ∷ is) (λ a b d le lt. up (suc a) (suc b) d (omega (arith, le)) (omega (arith, lt))) (All-tail (λ i. i.first < i.end) i (j ∷ is) long)
      (λ k more e. let first : j ≡ k = cc in subst (λ (x : Interval). i.first ≤ x.first) first (up 0 1 i (omega arith) (omega arith))),
)

pub sorted_rise : (is : List Interval) → IsNonDecreasingBy (λ i. i.first) is → All (λ i. i.first < i.end) is → Rises 0 is
sorted_rise is up long = rises_from 0 is up long (λ i more e. omega arith)
