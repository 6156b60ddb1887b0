-- Externals derived at moved placements are the derived ones, each moved as the public that it refers to.
use Rattle.std.proofs.Common.{◌≡◌, ℕ, zero, suc, ◌+◌, ◌<◌, ◌^◌, List, [], ◌∷◌, length, Bool, true, false, cond, refl, sym, ap, ap₂, ◌∙◌, subst, arith}
use Rattle.std.specs.Prelude.{map, flat_map, filter_map, find, All, Option, Some, None, option_map, option_and_then, slice_get, nat_lt, ◌==◌, ◌&&◌, Result, Ok, Err, is_ok}
use Rattle.std.specs.List.{enumerate_from, cons_option}
use Rattle.std.specs.Option.{option_or}
use Rattle.std.proofs.lemmas.Bool.{cond-true, eq-eqb, eqb-true, ne_eqb, lt-ltb, ltb-true, false≢true, true≢false}
use Rattle.std.proofs.lemmas.List.Elements.{All-nil, All-cons, All-head, All-tail}
use Rattle.std.proofs.lemmas.List.Folds.{find-append}
use Rattle.std.proofs.lemmas.Option.{none-some, same_Some, slice_get-map}
use Rattle.omf_check.specs.Tables.{entry}
use Rattle.omf_placement.specs.declared.frame.Placed.{Placed}
use Rattle.omf_placement.specs.declared.several.fault.DeriveFault.{DeriveFault}
use Rattle.omf_placement.specs.declared.several.fault.DeriveFault.TheVariants as fault
use Rattle.omf_placement.specs.declared.several.given.Given.{Given}
use Rattle.omf_placement.specs.declared.several.pairs.WeakPair.{WeakPair}
use Rattle.omf_placement.specs.Derive.{PlacedModule, named_externals, place_in, seen_publics}
use Rattle.omf_placement.specs.Inner.Derived.{err_of, external_place, external_places, given_or, given_place, of_name, ok_of, one_public}
use Rattle.omf_placement.specs.Weak.{default_place, given_at, is_undefined, pair_given, weak_given, weak_in, weak_pairs}
use Rattle.omf_placement.proofs.NamedLaws.{entry-suc}
use Rattle.omf_output.specs.declared.exe.movers.Moving.{Moving}
use Rattle.omf_output.specs.Exe.Derived.{default_in, default_moving, external_moving, externals_moving, only, single_of}
use Rattle.omf_output.specs.Exe.Moved.{parted_place, where_parted}
use Rattle.omf_output.proofs.PublicMoves.{Traced, raised}
use Rattle.omf_output.proofs.ReferredLaws.{get-enumerated, over-map}

-- ---- lists

at-number : {A B : Type 0} (g : ℕ × A → B) (xs : List A) (s n : ℕ) → slice_get (map g (enumerate_from s xs)) n ≡ option_map (λ x. g (s + n, x)) (slice_get xs n)
at-number g [] s n = refl
at-number g (x ∷ xs) s zero = ap (λ m. Some (g (m, x))) (omega arith)
at-number g (x ∷ xs) s (suc n) = at-number g xs (s + 1) n ∙ ap (λ m. option_map (λ y. g (m, y)) (slice_get xs n)) (omega arith)

entry-numbered : {A B : Type 0} (g : ℕ × A → B) (xs : List A) (i : ℕ) → entry (map g (enumerate_from 1 xs)) i ≡ option_map (λ x. g (i, x)) (entry xs i)
entry-numbered g xs zero = refl
entry-numbered g xs (suc i) =
    let same : 1 + i ≡ suc i = omega arith in
    entry-suc (map g (enumerate_from 1 xs)) i ∙ at-number g xs 1 i ∙ ap (λ m. option_map (λ y. g (m, y)) (slice_get xs i)) same
    ∙ ap (option_map (λ y. g (suc i, y))) (sym (entry-suc xs i))

entry-map : {A B : Type 0} (f : A → B) (xs : List A) (i : ℕ) → entry (map f xs) i ≡ option_map f (entry xs i)
entry-map f xs zero = refl
entry-map f xs (suc i) = entry-suc (map f xs) i ∙ slice_get-map f xs i ∙ ap (option_map f) (sym (entry-suc xs i))

map-same : {A B : Type 0} (f g : A → B) → ((x : A) → f x ≡ g x) → (xs : List A) → map f xs ≡ map g xs
map-same f g h [] = refl
map-same f g h (x ∷ xs) = ap₂ (λ y ys. y ∷ ys) (h x) (map-same f g h xs)

pub all-at : {A : Type 0} (P : A → Type 0) (xs : List A) (n : ℕ) (x : A) → All P xs → slice_get xs n ≡ Some x → P x
all-at P [] n x h e = absurd (none-some x e)
all-at P (y ∷ ys) zero x h e = subst P (same_Some y x e) (All-head P y ys h)
all-at P (y ∷ ys) (suc n) x h e = all-at P ys n x (All-tail P y ys h) e

or-none : {A : Type 0} (o : Option A) → option_or o None ≡ o
or-none None = refl
or-none (Some x) = refl

-- ---- the publics that the externals of a module refer to

abbrev pub way : Traced → Moving
way t = t.moving

abbrev single : List Traced → Option Traced
single [] = None
single (t ∷ []) = Some t
single (t ∷ u ∷ ts) = None

abbrev is_nothing : Option (List Traced) → Bool
is_nothing None = false
is_nothing (Some []) = true
is_nothing (Some (t ∷ ts)) = false

abbrev nowhere : Placed
nowhere = record { address = 0; frame = record { base = 0; selector = 0 } }

abbrev low_or : Placed → Placed
low_or p = cond (nat_lt p.address (2 ^ 32)) p nowhere

abbrev lows_or : (Traced → Placed) → Option Traced → Option Placed
lows_or f o = option_map (λ t. low_or (f t)) o

abbrev single_in : List (List Traced) → ℕ → Option Traced
single_in refs i = option_and_then single (entry refs i)

-- The default of an external: that of its first pair whose default refers to a single public.
abbrev default_of : List (List Traced) → List WeakPair → ℕ → Option Traced
default_of refs [] i = None
default_of refs (p ∷ ps) i = option_or (cond (p.weak == i) (single_in refs p.substitute) None) (default_of refs ps i)

module _ (f : Traced → Placed) (j : ℕ) where
  abbrev outcome_at : ℕ × List Traced → Result Placed DeriveFault
  outcome_at x = one_public j x.0 (map f x.1)

  abbrev outcomes : List (List Traced) → List (Result Placed DeriveFault)
  outcomes refs = map outcome_at (enumerate_from 1 refs)

  one-defined : (i : ℕ) (p : Placed) (b : Bool) → is_undefined (Some (cond b (Ok p) (Err (fault.TooHigh j i)))) ≡ false
  one-defined i p true = refl
  one-defined i p false = refl

  undefined-is : (i : ℕ) (o : Option (List Traced)) → is_undefined (option_map (λ ts. outcome_at (i, ts)) o) ≡ is_nothing o
  undefined-is i None = refl
  undefined-is i (Some []) = refl
  undefined-is i (Some (t ∷ [])) = one-defined i (f t) (nat_lt (f t).address (2 ^ 32))
  undefined-is i (Some (t ∷ u ∷ ts)) = refl

  one-default : (i : ℕ) (p : Placed) (b : Bool) → default_place (Some (cond b (Ok p) (Err (fault.TooHigh j i)))) ≡ Some (cond b p nowhere)
  one-default i p true = refl
  one-default i p false = refl

  default-is : (i : ℕ) (o : Option (List Traced)) → default_place (option_map (λ ts. outcome_at (i, ts)) o) ≡ lows_or f (option_and_then single o)
  default-is i None = refl
  default-is i (Some []) = refl
  default-is i (Some (t ∷ [])) = one-default i (f t) (nat_lt (f t).address (2 ^ 32))
  default-is i (Some (t ∷ u ∷ ts)) = refl

  pair-is : (refs : List (List Traced)) (p : WeakPair)
      → pair_given j (outcomes refs) p ≡ cond (is_nothing (entry refs p.weak)) (option_map (given_at j p.weak) (lows_or f (single_in refs p.substitute))) None
  pair-is refs p =
      ap₂ (λ b o. cond b (option_map (given_at j p.weak) o) None)
      (ap is_undefined (entry-numbered outcome_at refs p.weak) ∙ undefined-is p.weak (entry refs p.weak))
      (ap default_place (entry-numbered outcome_at refs p.substitute) ∙ default-is p.substitute (entry refs p.substitute))

-- ---- the entries of weak externals

abbrev is_for : ℕ → ℕ → Given → Bool
is_for j i g = (g.module == j) && (g.external == i)

find-here : (test : Given → Bool) (g : Given) (rest : List Given) (b : Bool) → test g ≡ b → find test (g ∷ rest) ≡ cond b (Some g) (find test rest)
find-here test g rest b e = ap (λ c. cond c (Some g) (find test rest)) e

own-test : (j w i : ℕ) (c : Bool) → (w == i) ≡ c → ((j == j) && (w == i)) ≡ c
own-test j w i c e = ap₂ (λ a b. a && b) (eq-eqb j j refl) e

own-step : (f : Traced → Placed) (j w i : ℕ) (u v c : Bool) (o d : Option Traced) (rest : List Given) → (w == i) ≡ c → (c ≡ true → u ≡ v) → given_place rest j i ≡ cond v (lows_or f d) None
    → given_place (cons_option (cond u (option_map (given_at j w) (lows_or f o)) None) rest) j i ≡ cond v (lows_or f (option_or (cond c o None) d)) None
own-step f j w i false v false o d rest e same h = h
own-step f j w i false false true o d rest e same h = h
own-step f j w i false true true o d rest e same h = absurd (false≢true (same refl))
own-step f j w i true v true None d rest e same h = h
own-step f j w i true v false None d rest e same h = h
own-step f j w i true v false (Some t) d rest e same h = ap (option_map place_in) (find-here (is_for j i) (given_at j w (low_or (f t))) rest false (own-test j w i false e)) ∙ h
own-step f j w i true true true (Some t) d rest e same h = ap (option_map place_in) (find-here (is_for j i) (given_at j w (low_or (f t))) rest true (own-test j w i true e))
own-step f j w i true false true (Some t) d rest e same h = absurd (true≢false (same refl))

abbrev no_place : Option Placed
no_place = None

none-either : (b : Bool) → no_place ≡ cond b no_place no_place
none-either true = refl
none-either false = refl

given-own : (f : Traced → Placed) (j : ℕ) (refs : List (List Traced)) (i : ℕ) (pairs : List WeakPair)
    → given_place (filter_map (pair_given j (outcomes f j refs)) pairs) j i ≡ cond (is_nothing (entry refs i)) (lows_or f (default_of refs pairs i)) None
given-own f j refs i [] = none-either (is_nothing (entry refs i))
given-own f j refs i (p ∷ ps) =
    let rest = filter_map (pair_given j (outcomes f j refs)) ps in
    ap (λ o. given_place (cons_option o rest) j i) (pair-is f j refs p)
    ∙ own-step f j p.weak i (is_nothing (entry refs p.weak)) (is_nothing (entry refs i)) (p.weak == i) (single_in refs p.substitute) (default_of refs ps i) rest refl
    (λ e. ap (λ n. is_nothing (entry refs n)) (eqb-true p.weak i e)) (given-own f j refs i ps)

-- Those of other modules are for no external of this one.
other-step : (n j i w : ℕ) (u : Bool) (o : Option Placed) (rest : List Given) → (n == j) ≡ false → find (is_for j i) rest ≡ None
    → find (is_for j i) (cons_option (cond u (option_map (given_at n w) o) None) rest) ≡ None
other-step n j i w false o rest e h = h
other-step n j i w true None rest e h = h
other-step n j i w true (Some p) rest e h = find-here (is_for j i) (given_at n w p) rest false (ap (λ b. b && (w == i)) e) ∙ h

other-none : (n j i : ℕ) (rs : List (Result Placed DeriveFault)) (pairs : List WeakPair) → (n == j) ≡ false → find (is_for j i) (filter_map (pair_given n rs) pairs) ≡ None
other-none n j i rs [] e = refl
other-none n j i rs (p ∷ ps) e =
    other-step n j i p.weak (is_undefined (entry rs p.weak)) (default_place (entry rs p.substitute)) (filter_map (pair_given n rs) ps) e (other-none n j i rs ps e)

module _ (all : List PlacedModule) (j i : ℕ) where
  abbrev entries_of : ℕ × PlacedModule → List Given
  entries_of x = weak_in all [] x

  abbrev entries_from : ℕ → List PlacedModule → List Given
  entries_from s xs = flat_map entries_of (enumerate_from s xs)

  not-own : (s : ℕ) (x : PlacedModule) → (s == j) ≡ false → find (is_for j i) (entries_of (s, x)) ≡ None
  not-own s x e = other-none s j i (external_places (seen_publics all x) [] s x.0) (weak_pairs x.0) e

  later-none : (xs : List PlacedModule) (s : ℕ) → j < s → find (is_for j i) (entries_from s xs) ≡ None
  later-none [] s h = refl
  later-none (x ∷ xs) s h =
      find-append (is_for j i) (entries_of (s, x)) (entries_from (s + 1) xs)
      ∙ ap₂ option_or (not-own s x (ne_eqb s j (λ e. omega (arith, e, h)))) (later-none xs (s + 1) (omega (arith, h)))

  own-found : (xs : List PlacedModule) (s n : ℕ) (x : PlacedModule) → s + n ≡ j → slice_get xs n ≡ Some x → find (is_for j i) (entries_from s xs) ≡ find (is_for j i) (entries_of (j, x))
  own-found [] s n x e h = absurd (none-some x h)
  own-found (y ∷ ys) s zero x e h =
      let here : s ≡ j = omega (arith, e) in
      find-append (is_for j i) (entries_of (s, y)) (entries_from (s + 1) ys)
      ∙ ap (option_or (find (is_for j i) (entries_of (s, y)))) (later-none ys (s + 1) (omega (arith, e)))
      ∙ or-none (find (is_for j i) (entries_of (s, y)))
      ∙ ap₂ (λ m z. find (is_for j i) (entries_of (m, z))) here (same_Some y x h)
  own-found (y ∷ ys) s (suc n) x e h =
      find-append (is_for j i) (entries_of (s, y)) (entries_from (s + 1) ys)
      ∙ ap (λ o. option_or o (find (is_for j i) (entries_from (s + 1) ys))) (not-own s y (ne_eqb s j (λ d. omega (arith, e, d))))
      ∙ own-found ys (s + 1) n x (omega (arith, e)) h

-- ---- the outcomes for the externals of a module

-- The place or fault of an external with this default that refers to these publics.
abbrev pub taken_by : (Traced → Placed) → ℕ → ℕ → Option Traced → List Traced → Result Placed DeriveFault
taken_by f j i d ts = given_or (cond (is_nothing (Some ts)) (lows_or f d) None) (one_public j i (map f ts))

abbrev pub taken : (Traced → Placed) → ℕ → List (List Traced) → List WeakPair → ℕ × List Traced → Result Placed DeriveFault
taken f j refs pairs x = taken_by f j x.0 (default_of refs pairs x.0) x.1

module _ (all : List PlacedModule) (j : ℕ) (x : PlacedModule) (here : slice_get all j ≡ Some x) (refer : List ℕ × Bool → List Traced) (f : Traced → Placed)
    (named : (e : List ℕ × Bool) → filter_map (of_name e.0) (seen_publics all x e.1) ≡ map f (refer e)) where
  abbrev refs : List (List Traced)
  refs = map refer (named_externals x.0)

  plain-from : (es : List (List ℕ × Bool)) (s : ℕ) → map (λ e. external_place (seen_publics all x e.1.1) [] j e.0 e.1.0) (enumerate_from s es) ≡ map (outcome_at f j) (enumerate_from s (map refer es))
  plain-from [] s = refl
  plain-from (e ∷ es) s = ap₂ (λ ps rest. one_public j s ps ∷ rest) (named e) (plain-from es (s + 1))

  given-is : (i : ℕ) → given_place (weak_given all []) j i ≡ cond (is_nothing (entry refs i)) (lows_or f (default_of refs (weak_pairs x.0) i)) None
  given-is i =
      ap (option_map place_in) (own-found all j i all 0 j x (omega arith) here)
      ∙ ap (λ rs. given_place (filter_map (pair_given j rs) (weak_pairs x.0)) j i) (plain-from (named_externals x.0) 1)
      ∙ given-own f j refs i (weak_pairs x.0)

  taken-from : (es : List (List ℕ × Bool)) (s : ℕ) → ((n : ℕ) → entry refs (s + n) ≡ slice_get (map refer es) n)
      → map (λ e. external_place (seen_publics all x e.1.1) (weak_given all []) j e.0 e.1.0) (enumerate_from s es) ≡ map (taken f j refs (weak_pairs x.0)) (enumerate_from s (map refer es))
  taken-from [] s g = refl
  taken-from (e ∷ es) s g =
      let first : s ≡ s + 0 = omega arith in
      let at : entry refs s ≡ Some (refer e) = ap (entry refs) first ∙ g 0 in
      ap₂ (λ r rest. r ∷ rest)
      (ap₂ given_or (given-is s ∙ ap (λ o. cond (is_nothing o) (lows_or f (default_of refs (weak_pairs x.0) s)) None) at) (ap (one_public j s) (named e)))
      (taken-from es (s + 1) (λ n. let next : s + 1 + n ≡ s + suc n = omega arith in ap (entry refs) next ∙ g (suc n)))

  pub all-taken : external_places (seen_publics all x) (weak_given all []) j x.0 ≡ map (taken f j refs (weak_pairs x.0)) (enumerate_from 1 refs)
  all-taken = taken-from (named_externals x.0) 1 (λ n. let next : 1 + n ≡ suc n = omega arith in ap (entry refs) next ∙ entry-suc refs n)

-- ---- how the externals of a module move

abbrev pub moves_by : List (List Traced) → List WeakPair → ℕ × List Traced → Moving
moves_by refs pairs x = external_moving (option_map way (default_of refs pairs x.0)) (map way x.1)

module _ (refs : List (List Traced)) where
  only-is : (ts : List Traced) → only (map way ts) ≡ option_map way (single ts)
  only-is [] = refl
  only-is (t ∷ []) = refl
  only-is (t ∷ u ∷ ts) = refl

  singles : (o : Option (List Traced)) → option_and_then only (option_map (map way) o) ≡ option_map way (option_and_then single o)
  singles None = refl
  singles (Some ts) = only-is ts

  single-is : (i : ℕ) → single_of (map (map way) refs) i ≡ option_map way (single_in refs i)
  single-is i = ap (option_and_then only) (entry-map (map way) refs i) ∙ singles (entry refs i)

  default-step : (c : Bool) (o d : Option Traced) (rest : List Moving) → slice_get rest 0 ≡ option_map way d
      → slice_get (cons_option (cond c (option_map way o) None) rest) 0 ≡ option_map way (option_or (cond c o None) d)
  default-step true (Some t) d rest h = refl
  default-step true None d rest h = h
  default-step false o d rest h = h

  default-moves : (pairs : List WeakPair) (i : ℕ) → default_moving (single_of (map (map way) refs)) pairs i ≡ option_map way (default_of refs pairs i)
  default-moves [] i = refl
  default-moves (p ∷ ps) i =
      let rest = filter_map (default_in (single_of (map (map way) refs)) i) ps in
      ap (λ o. slice_get (cons_option (cond (p.weak == i) o None) rest) 0) (single-is p.substitute)
      ∙ default-step (p.weak == i) (single_in refs p.substitute) (default_of refs ps i) rest (default-moves ps i)

  pub externals-are : (pairs : List WeakPair) → externals_moving (map (map way) refs) pairs ≡ map (moves_by refs pairs) (enumerate_from 1 refs)
  externals-are pairs =
      let each = λ (x : ℕ × List Moving). external_moving (default_moving (single_of (map (map way) refs)) pairs x.0) x.1 in
      sym (over-map (map way) each refs 1)
      ∙ map-same (λ (x : ℕ × List Traced). each (x.0, map way x.1)) (moves_by refs pairs) (λ x. ap (λ o. external_moving o (map way x.1)) (default-moves pairs x.0)) (enumerate_from 1 refs)

-- ---- the outcomes at the moved placements

abbrev pub IsLow : Placed → Type 0
IsLow p = p.address < 2 ^ 32

abbrev value-or : Placed → Result Placed DeriveFault → Placed
value-or d (Ok p) = p
value-or d (Err e) = d

abbrev placed_ok : Placed → Result Placed DeriveFault
placed_ok p = Ok p

ok-same : (p q : Placed) → placed_ok p ≡ placed_ok q → p ≡ q
ok-same p q e = ap (value-or p) e

low-is : (p : Placed) → IsLow p → low_or p ≡ p
low-is p h = cond-true (nat_lt p.address (2 ^ 32)) p nowhere (lt-ltb p.address (2 ^ 32) h)

-- A public whose place is below 2^32, and so where it is moved.
record IsGood (k : ℕ) (t : Traced) : Type 0 where
  low : IsLow t.place
  high : IsLow (raised k t)

one-taken : (b : Bool) (p q : Placed) (e : DeriveFault) → cond b (Ok p) (Err e) ≡ Ok q → (b ≡ true) × (p ≡ q)
one-taken true p q e h = (refl, ok-same p q h)
one-taken false p q e h = absurd (false≢true (ap is_ok h))

taken-raised : (k j i : ℕ) (d : Option Traced) (ts : List Traced) (p : Placed) → taken_by (λ t. t.place) j i d ts ≡ Ok p
    → IsLow (parted_place k (external_moving (option_map way d) (map way ts)) p) → ((t : Traced) → d ≡ Some t → IsGood k t)
    → taken_by (raised k) j i d ts ≡ Ok (parted_place k (external_moving (option_map way d) (map way ts)) p)
taken-raised k j i None [] p e low good = absurd (false≢true (ap is_ok e))
taken-raised k j i (Some t) [] p e low good =
    let g = good t refl in
    ap (λ q. Ok q) (low-is (raised k t) g.high ∙ ap (parted_place k t.moving) (sym (low-is t.place g.low) ∙ ok-same (low_or t.place) p e))
taken-raised k j i d (t ∷ []) p e low good =
    let s = one-taken (nat_lt t.place.address (2 ^ 32)) t.place p (fault.TooHigh j i) e in
    let high : IsLow (raised k t) = subst (λ q. IsLow (parted_place k t.moving q)) (sym s.1) low in
    cond-true (nat_lt (raised k t).address (2 ^ 32)) (Ok (raised k t)) (Err (fault.TooHigh j i)) (lt-ltb (raised k t).address (2 ^ 32) high)
    ∙ ap (λ q. Ok (parted_place k t.moving q)) s.1
taken-raised k j i d (t ∷ u ∷ ts) p e low good = absurd (false≢true (ap is_ok e))

taken-low : (k j i : ℕ) (d : Option Traced) (ts : List Traced) (p q : Placed) → taken_by (λ t. t.place) j i d ts ≡ Ok p → taken_by (raised k) j i d ts ≡ Ok q → ((t : Traced) → d ≡ Some t → IsGood k t)
    → IsLow (parted_place k (external_moving (option_map way d) (map way ts)) p)
taken-low k j i None [] p q e f good = absurd (false≢true (ap is_ok e))
taken-low k j i (Some t) [] p q e f good =
    let g = good t refl in
    subst (λ u. IsLow (parted_place k t.moving u)) (sym (low-is t.place g.low) ∙ ok-same (low_or t.place) p e) g.high
taken-low k j i d (t ∷ []) p q e f good =
    subst (λ u. IsLow (parted_place k t.moving u)) (one-taken (nat_lt t.place.address (2 ^ 32)) t.place p (fault.TooHigh j i) e).1
    (ltb-true (raised k t).address (2 ^ 32) (one-taken (nat_lt (raised k t).address (2 ^ 32)) (raised k t) q (fault.TooHigh j i) f).0)
taken-low k j i d (t ∷ u ∷ ts) p q e f good = absurd (false≢true (ap is_ok e))

module _ (k j : ℕ) (refs : List (List Traced)) (pairs : List WeakPair) where
  abbrev before : ℕ × List Traced → Result Placed DeriveFault
  before x = taken (λ t. t.place) j refs pairs x

  abbrev after : ℕ × List Traced → Result Placed DeriveFault
  after x = taken (raised k) j refs pairs x

  abbrev ways : List (ℕ × List Traced) → List Moving
  ways xs = map (moves_by refs pairs) xs

  -- An external has a place, and is moved to one below 2^32.
  record IsRaised (x : ℕ × List Traced) : Type 0 where
    place : Placed
    has : before x ≡ Ok place
    low : IsLow (parted_place k (moves_by refs pairs x) place)

  each-step : (x : ℕ × List Traced) (r : Result Placed DeriveFault) (rs : List (Result Placed DeriveFault)) (ws : List Moving) → before x ≡ r → filter_map err_of (r ∷ rs) ≡ []
      → All IsLow (where_parted k (moves_by refs pairs x ∷ ws) (filter_map ok_of (r ∷ rs))) → IsRaised x × ((filter_map err_of rs ≡ []) × All IsLow (where_parted k ws (filter_map ok_of rs)))
  each-step x (Ok p) rs ws e h low = (
    record { place = p; has = e; low = All-head IsLow (parted_place k (moves_by refs pairs x) p) (where_parted k ws (filter_map ok_of rs)) low },
    (h, All-tail IsLow (parted_place k (moves_by refs pairs x) p) (where_parted k ws (filter_map ok_of rs)) low),
  )
  each-step x (Err f) rs ws e h low = absurd (omega (arith, ap length h))

  all-raised : (xs : List (ℕ × List Traced)) → filter_map err_of (map before xs) ≡ [] → All IsLow (where_parted k (ways xs) (filter_map ok_of (map before xs))) → All IsRaised xs
  all-raised [] h low = All-nil IsRaised
  all-raised (x ∷ xs) h low = let s = each-step x (before x) (map before xs) (ways xs) refl h low in All-cons IsRaised x xs s.0 (all-raised xs s.1.0 s.1.1)

  one-good : (i : ℕ) (t : Traced) → IsRaised (i, t ∷ []) → IsGood k t
  one-good i t h =
      let s = one-taken (nat_lt t.place.address (2 ^ 32)) t.place h.place (fault.TooHigh j i) h.has in
      record { low = ltb-true t.place.address (2 ^ 32) s.0; high = subst (λ q. IsLow (parted_place k t.moving q)) (sym s.1) h.low }

  -- An external has a place, and one at the moved placements.
  record IsTwice (x : ℕ × List Traced) : Type 0 where
    place : Placed
    has : before x ≡ Ok place
    moved : Placed
    has_moved : after x ≡ Ok moved

  twice-step : (x : ℕ × List Traced) (r q : Result Placed DeriveFault) (rs qs : List (Result Placed DeriveFault)) → before x ≡ r → after x ≡ q → filter_map err_of (r ∷ rs) ≡ [] → filter_map err_of (q ∷ qs) ≡ []
      → IsTwice x × ((filter_map err_of rs ≡ []) × (filter_map err_of qs ≡ []))
  twice-step x (Ok p) (Ok u) rs qs e f h g = (record { place = p; has = e; moved = u; has_moved = f }, (h, g))
  twice-step x (Ok p) (Err u) rs qs e f h g = absurd (omega (arith, ap length g))
  twice-step x (Err p) q rs qs e f h g = absurd (omega (arith, ap length h))

  all-twice : (xs : List (ℕ × List Traced)) → filter_map err_of (map before xs) ≡ [] → filter_map err_of (map after xs) ≡ [] → All IsTwice xs
  all-twice [] h g = All-nil IsTwice
  all-twice (x ∷ xs) h g = let s = twice-step x (before x) (after x) (map before xs) (map after xs) refl refl h g in All-cons IsTwice x xs s.0 (all-twice xs s.1.0 s.1.1)

  twice-good : (i : ℕ) (t : Traced) → IsTwice (i, t ∷ []) → IsGood k t
  twice-good i t h = record {
    low = ltb-true t.place.address (2 ^ 32) (one-taken (nat_lt t.place.address (2 ^ 32)) t.place h.place (fault.TooHigh j i) h.has).0;
    high = ltb-true (raised k t).address (2 ^ 32) (one-taken (nat_lt (raised k t).address (2 ^ 32)) (raised k t) h.moved (fault.TooHigh j i) h.has_moved).0;
  }

  -- The default of an external is a public of another.
  module _ (Is : ℕ × List Traced → Type 0) (good : (i : ℕ) (t : Traced) → Is (i, t ∷ []) → IsGood k t) (each : All Is (enumerate_from 1 refs)) where
    good-at : (n : ℕ) (t : Traced) (o : Option (List Traced)) → slice_get refs n ≡ o → option_and_then single o ≡ Some t → IsGood k t
    good-at n t None e h = absurd (none-some t h)
    good-at n t (Some []) e h = absurd (none-some t h)
    good-at n t (Some (u ∷ [])) e h =
        subst (IsGood k) (same_Some u t h) (good (1 + n) u (all-at Is (enumerate_from 1 refs) n (1 + n, u ∷ []) each (get-enumerated refs 1 n (u ∷ []) e)))
    good-at n t (Some (u ∷ v ∷ ts)) e h = absurd (none-some t h)

    single-good : (i : ℕ) (t : Traced) → single_in refs i ≡ Some t → IsGood k t
    single-good zero t h = absurd (none-some t h)
    single-good (suc n) t h = good-at n t (slice_get refs n) refl (ap (option_and_then single) (sym (entry-suc refs n)) ∙ h)

    one-default-good : (n : ℕ) (t : Traced) (c : Bool) (o d : Option Traced) → single_in refs n ≡ o → option_or (cond c o None) d ≡ Some t → (d ≡ Some t → IsGood k t) → IsGood k t
    one-default-good n t true (Some u) d e h more = single-good n t (e ∙ h)
    one-default-good n t true None d e h more = more h
    one-default-good n t false o d e h more = more h

    default-good : (ps : List WeakPair) (i : ℕ) (t : Traced) → default_of refs ps i ≡ Some t → IsGood k t
    default-good [] i t h = absurd (none-some t h)
    default-good (p ∷ ps) i t h = one-default-good p.substitute t (p.weak == i) (single_in refs p.substitute) (default_of refs ps i) refl h (default-good ps i t)

  module _ (good : (i : ℕ) (t : Traced) → default_of refs pairs i ≡ Some t → IsGood k t) where
    raised-from : (xs : List (ℕ × List Traced)) → All IsRaised xs → map after xs ≡ map (λ p. Ok p) (where_parted k (ways xs) (filter_map ok_of (map before xs)))
    raised-from [] h = refl
    raised-from (x ∷ xs) h =
        let first = All-head IsRaised x xs h in
        ap₂ (λ r rest. r ∷ rest)
        (taken-raised k j x.0 (default_of refs pairs x.0) x.1 first.place first.has first.low (good x.0))
        (raised-from xs (All-tail IsRaised x xs h))
        ∙ ap (λ r. map (λ p. Ok p) (where_parted k (moves_by refs pairs x ∷ ways xs) (cons_option (ok_of r) (filter_map ok_of (map before xs))))) (sym first.has)

    low-from : (xs : List (ℕ × List Traced)) → All IsTwice xs → All IsLow (where_parted k (ways xs) (filter_map ok_of (map before xs)))
    low-from [] h = All-nil IsLow
    low-from (x ∷ xs) h =
        let first = All-head IsTwice x xs h in
        let high = parted_place k (moves_by refs pairs x) first.place in
        let rest = filter_map ok_of (map before xs) in
        subst (λ r. All IsLow (where_parted k (moves_by refs pairs x ∷ ways xs) (cons_option (ok_of r) rest))) (sym first.has)
        (All-cons IsLow high (where_parted k (ways xs) rest)
        (taken-low k j x.0 (default_of refs pairs x.0) x.1 first.place first.moved first.has first.has_moved (good x.0)) (low-from xs (All-tail IsTwice x xs h)))

  abbrev numbered : List (ℕ × List Traced)
  numbered = enumerate_from 1 refs

  pub outcomes-raised : filter_map err_of (map before numbered) ≡ [] → All IsLow (where_parted k (ways numbered) (filter_map ok_of (map before numbered)))
      → map after numbered ≡ map (λ p. Ok p) (where_parted k (ways numbered) (filter_map ok_of (map before numbered)))
  outcomes-raised h low = let each = all-raised numbered h low in raised-from (default-good IsRaised one-good each pairs) numbered each

  pub outcomes-low : filter_map err_of (map before numbered) ≡ [] → filter_map err_of (map after numbered) ≡ [] → All IsLow (where_parted k (ways numbered) (filter_map ok_of (map before numbered)))
  outcomes-low h g = let each = all-twice numbered h g in low-from (default-good IsTwice twice-good each pairs) numbered each
