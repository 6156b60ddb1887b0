-- Segments with one place, and those without a rival.
use Rattle.std.proofs.Common.{◌≡◌, ◌⊎◌, inl, inr, ℕ, zero, suc, ◌+◌, ◌-◌, ◌<◌, ◌≤◌, ◌^◌, min, Bool, true, false, List, [], ◌∷◌, ◌++◌, length, take, Option, Some, None, refl, sym, ap, ap₂, subst, ◌∙◌, arith, Ordering, Equal}
use Rattle.std.specs.Prelude.{◌==◌, ◌&&◌, ◌||◌, All, AllPairs, Contains, IfSome, filter_map, get_or, nat_le, nat_lt, option_to_list, slice_get, if◌then◌else◌}
use Rattle.std.specs.BTreeSet.{insert_key}
use Rattle.std.specs.Cmp.{unsigned_ties}
use Rattle.std.specs.Global.{Vec}
use Rattle.std.specs.List.{AllZip, cons_option, list_any}
use Rattle.std.specs.List.Sorted.{IsNonDecreasingBy, IsPermutation}
use Rattle.std.specs.Ordering.{is_eq, nat_cmp, ordering_then}
use Rattle.std.proofs.Math.Nat.{min-le_left}
use Rattle.std.proofs.lemmas.Bool.{and_parts, cases_lt, eq-eqb, eqb-true, false≢true, leb-true, true≢false}
use Rattle.std.proofs.lemmas.Bool.Decides.{eqb_tells, leb_tells}
use Rattle.std.proofs.lemmas.List.{append_assoc, take_more}
use Rattle.std.proofs.lemmas.List.Elements.{Contains-append_cases, Contains-append_left, Contains-append_right, Contains-get_or, filter_map-append}
use Rattle.std.proofs.lemmas.List.Kept.{AllPairs-cons}
use Rattle.std.proofs.lemmas.List.Sorted.{Contains-permutation, IsPermutation-sym}
use Rattle.std.proofs.lemmas.Map.Keys.{IsDistinct-IsPermutation, IsDistinct-from_apart, apart_from_distinct}
use Rattle.std.proofs.lemmas.Option.{none-some, same_Some, slice_get_within}
use Rattle.omf_check.specs.Module.{Module, recs_of}
use Rattle.omf_image.proofs.RunLaws.{contains_first, contains_here, contains_more}
use Rattle.omf_finding.specs.Chain.{enough}
use Rattle.omf_finding.specs.Finding.{IsInside}
use Rattle.omf_finding.specs.Sure.{IsOnlyAt, IsRivaled, Spans}
use Rattle.omf_finding.specs.Inner.Shaping.{AreShapes, HasShapes, HaveShapes, IsShapeOf, bytes_of}
use Rattle.omf_finding.specs.Inner.Singling.{AreApart, AreShapesOf, AreSingles, HaveSingles, IsAdded, IsKept, IsOwned, IsStep, IsUnrivaledAmong, Keys, has_key, if_long, key_cmp, own_singles, pushed, same_key, single_at, single_of_places, single_with}
use Rattle.omf_finding.specs.declared.program.Program.{Program}
use Rattle.omf_finding.specs.declared.shapes.Shape.{Shape}
use Rattle.omf_finding.specs.declared.singles.Rated.{Rated}
use Rattle.omf_finding.specs.declared.singles.Single.{Single}
use Rattle.omf_finding.proofs.ChainLaws.{zip-get}
use Rattle.omf_finding.proofs.ClosedLaws.{filter-one, from-filter, to-filter}
use Rattle.omf_finding.proofs.CloseLaws.{and-both, insert-any, or-left, or-right, tied-then}
use Rattle.omf_finding.proofs.MeasureLaws.{slice-at}

-- ---- keys

key-tied : (a b s t : ℕ) → is_eq (ordering_then (nat_cmp a b) (nat_cmp s t)) ≡ ((a == b) && (s == t))
key-tied a b s t = tied-then (nat_cmp a b) (nat_cmp s t) ∙ ap₂ (λ x y. x && y) (sym (unsigned_ties a b)) (sym (unsigned_ties s t))

key-more : (old new : Keys) (k : ℕ × ℕ) → new.keys ≡ insert_key key_cmp old.keys k → (owner segment : ℕ) → has_key new owner segment ≡ (((owner == k.0) && (segment == k.1)) || has_key old owner segment)
key-more old new k e owner segment = ap (list_any test) e ∙ insert-any key_cmp test k same old.keys ∙ ap (λ t. t || has_key old owner segment) (key-tied owner k.0 segment k.1)
  where
    test : ℕ × ℕ → Bool
    test q = is_eq (key_cmp (owner, segment) q)

    same : (x : ℕ × ℕ) → key_cmp k x ≡ Equal → test k ≡ test x
    same x equal =
        let both = and_parts (k.0 == x.0) (k.1 == x.1) (sym (key-tied k.0 x.0 k.1 x.1) ∙ ap is_eq equal) in
        ap₂ (λ (a b : ℕ). is_eq (ordering_then (nat_cmp owner a) (nat_cmp segment b))) (eqb-true k.0 x.0 both.0) (eqb-true k.1 x.1 both.1)

pub added-one : (old new : Keys) (x : Single) (last : Option Rated) (r : Rated) → last ≡ Some r → r.single ≡ x → new.keys ≡ insert_key key_cmp old.keys (x.owner, x.segment) → IsAdded old new last
added-one old new x last r is one e = record {
  keeps = λ owner segment h. key-more old new (x.owner, x.segment) e owner segment ∙ or-right ((owner == x.owner) && (segment == x.segment)) (has_key old owner segment) h;
  adds = λ y h.
      let kept = subst (λ (o : Option Rated). IsKept o y) is h in
      subst (λ (z : Single). has_key new z.owner z.segment ≡ true) (sym one ∙ kept.0)
      (key-more old new (x.owner, x.segment) e x.owner x.segment ∙ or-left ((x.owner == x.owner) && (x.segment == x.segment)) (has_key old x.owner x.segment) (and-both (x.owner == x.owner) (x.segment == x.segment) (eq-eqb x.owner x.owner refl) (eq-eqb x.segment x.segment refl)));
}

-- ---- one segment

-- What is known of such a segment.
pub record HasParts (owner least : ℕ) (s : Shape) (x : Single) : Type 0 where
  pub places : s.places.items ≡ x.address ∷ []
  pub all : s.more ≡ false
  pub owner_is : x.owner ≡ owner
  pub segment_is : x.segment ≡ s.segment
  pub closed_is : x.closed ≡ s.closed
  pub start_is : x.start ≡ x.address + s.first
  pub end_is : x.end ≡ min (x.address + s.end) (2 ^ 64 - 1)
  pub long : x.start < x.end
  pub enough_are : least ≤ s.closed

pub single-parts : (owner least : ℕ) (s : Shape) (x : Single) → single_with owner least s ≡ Some x → HasParts owner least s x
single-parts owner least s x e = by-test (nat_le least s.closed && nat_le (min least 8) s.varied) refl e
  where
    by-long : (address : ℕ) → s.places.items ≡ address ∷ [] → s.more ≡ false → least ≤ s.closed → (b : Bool) → nat_lt (single_at owner s address).start (single_at owner s address).end ≡ b → (if b then Some (single_at owner s address) else None) ≡ Some x → HasParts owner least s x
    by-long address p q n true l f =
        let same : single_at owner s address ≡ x = same_Some (single_at owner s address) x f in
        subst (HasParts owner least s) same (record { places = p; all = q; owner_is = refl; segment_is = refl; closed_is = refl; start_is = refl; end_is = refl; long = lt-of (address + s.first) (min (address + s.end) (2 ^ 64 - 1)) l; enough_are = n })
      where
        lt-of : (a b : ℕ) → nat_lt a b ≡ true → a < b
        lt-of a b h = let w = leb-true (suc a) b h in omega (arith, w)
    by-long address p q n false l f = absurd (none-some x f)

    by-places : (ps : List ℕ) (more : Bool) → s.places.items ≡ ps → s.more ≡ more → least ≤ s.closed → single_of_places owner s ps more ≡ Some x → HasParts owner least s x
    by-places [] more p q n f = absurd (none-some x f)
    by-places (a ∷ []) true p q n f = absurd (none-some x f)
    by-places (a ∷ []) false p q n f = by-long a p q n (nat_lt (single_at owner s a).start (single_at owner s a).end) refl f
    by-places (a ∷ b ∷ ps) more p q n f = absurd (none-some x f)

    by-test : (b : Bool) → (nat_le least s.closed && nat_le (min least 8) s.varied) ≡ b → (if b then single_of_places owner s s.places.items s.more else None) ≡ Some x → HasParts owner least s x
    by-test true t f = by-places s.places.items s.more refl refl (leb-true least s.closed (and_parts (nat_le least s.closed) (nat_le (min least 8) s.varied) t).0) f
    by-test false t f = absurd (none-some x f)

-- ---- of a module

pub filter-more : {A B : Type 0} (f : A → Option B) (xs : List A) (k : ℕ) (x : A) (old now new : List B) (o : Option B) → x ≡ get_or xs k x → k < length xs → now ≡ old ++ filter_map f (take k xs) → o ≡ f x → new ≡ now ++ option_to_list o
    → new ≡ old ++ filter_map f (take (k + 1) xs)
filter-more {A = A} {B = B} f xs k x old now new o e low h q n =
    let before = filter_map f (take k xs) in
    n ∙ ap₂ (λ (ys zs : List B). ys ++ zs) h (ap option_to_list q) ∙ append_assoc old before (option_to_list (f x)) ∙ ap (λ (ys : List B). old ++ (before ++ ys)) (sym (filter-one f x))
    ∙ ap (λ (ys : List B). old ++ ys) (sym (filter_map-append f (take k xs) (x ∷ []))) ∙ ap (λ (y : A). old ++ filter_map f (take k xs ++ y ∷ [])) e ∙ ap (λ (ys : List A). old ++ filter_map f ys) (sym (take_more xs k x low))

-- ---- of all modules

pairs-append : {X : Type 0} (R : X → X → Type 0) (xs ys : List X) → AllPairs R xs → AllPairs R ys → ((x y : X) → Contains xs x → Contains ys y → R x y) → AllPairs R (xs ++ ys)
pairs-append R [] ys h k between = k
pairs-append {X = X} R (x ∷ xs) ys h k between = AllPairs-cons R x (xs ++ ys) head (pairs-append R xs ys (λ i j d less low. h (suc i) (suc j) d (omega (arith, less)) (omega (arith, low))) k (λ a b c d. between a b (contains_more a x xs c) d))
  where
    one : (z : X) → Contains (xs ++ ys) z → R x z
    one z c = elim (Contains-append_cases xs ys z c) [
      | inl d ↦ subst (R x) d.2 (h 0 (suc d.0) z (omega arith) (let low = d.1 in omega (arith, low)))
      | inr d ↦ between x z (contains_here x xs) d
    ]

    head : All (R x) (xs ++ ys)
    head i d low = one (get_or (xs ++ ys) i d) (Contains-get_or (xs ++ ys) i d low)

-- the segments of a module are numbered in order
abbrev pub AreNumbered : ℕ → List Shape → Type 0
AreNumbered start ss = (j : ℕ) (s : Shape) → slice_get ss j ≡ Some s → s.segment ≡ start + j

module _ (f : Shape → Option Single) (own : (s : Shape) (x : Single) → f s ≡ Some x → x.segment ≡ s.segment) where
  own-apart : (start : ℕ) (ss : List Shape) → AreNumbered start ss → AreApart (filter_map f ss)
  own-apart start [] h = λ i j d less low. absurd (omega (arith, low))
  own-apart start (s ∷ ss) h = by (own-apart (start + 1) ss (λ j t e. let n = h (suc j) t e in omega (arith, n))) (f s) refl
    where
      by : AreApart (filter_map f ss) → (o : Option Single) → f s ≡ o → AreApart (cons_option o (filter_map f ss))
      by rest None e = rest
      by rest (Some x) e = AllPairs-cons (λ y z. same_key y z ≡ false) x (filter_map f ss) head rest
        where
          apart : (y : Single) → Contains (filter_map f ss) y → same_key x y ≡ false
          apart y c =
              let r = from-filter f ss y c in
              let t = r.0 in
              let later = h (suc r.1.0) t (slice-at ss r.1.0 t r.1.1 r.1.2) in
              let first = h 0 s refl in
              let here = own s x e in
              let there = own t y r.2 in
              other (x.owner == y.owner) (eqb_tells x.segment y.segment) (omega (arith, later, first, here, there))
            where
              other : (b : Bool) → (((x.segment == y.segment) ≡ true) × (x.segment ≡ y.segment)) ⊎ (((x.segment == y.segment) ≡ false) × (x.segment ≡ y.segment → ⊥)) → x.segment < y.segment → (b && (x.segment == y.segment)) ≡ false
              other b (inl u) less = absurd (let same = u.1 in omega (arith, same, less))
              other true (inr u) less = u.0
              other false (inr u) less = refl

          head : All (λ y. same_key x y ≡ false) (filter_map f ss)
          head i d low = apart (get_or (filter_map f ss) i d) (Contains-get_or (filter_map f ss) i d low)

module _ (n : ℕ) (ms : List Module) (shapes : List (Vec Shape)) where
  pub singles-first : (all : List Single) → all ≡ [] → HaveSingles n ms shapes 0 all × AreApart all
  singles-first all e = subst (λ (xs : List Single). HaveSingles n ms shapes 0 xs × AreApart xs) (sym e) (
    record { each = λ x c. absurd (omega (arith, c.1)); every = λ i m ss s x low. absurd (omega (arith, low)) },
    λ i j d less low. absurd (omega (arith, low)),
  )

  module _ (k : ℕ) (m : Module) (ss : Vec Shape) (old new : List Single) (is : slice_get ms k ≡ Some m) (are : slice_get shapes k ≡ Some ss) (e : new ≡ old ++ own_singles n k m ss.items) (have : HaveSingles n ms shapes k old) where
    abbrev own : Shape → Option Single
    own s = single_with k (enough n (recs_of m.bytes) s.segment) s

    owned : (x : Single) → Contains (own_singles n k m ss.items) x → IsOwned n ms shapes x × (x.owner ≡ k)
    owned x c =
        let r = from-filter own ss.items x c in
        let owner = (single-parts k (enough n (recs_of m.bytes) r.0.segment) r.0 x r.2).owner_is in (
          record {
            m = m;
            ss = ss;
            s = r.0;
            module_is = ap (slice_get ms) owner ∙ is;
            shapes_are = ap (slice_get shapes) owner ∙ are;
            of = r.1;
            is = ap (λ (o : ℕ). single_with o (enough n (recs_of m.bytes) r.0.segment) r.0) owner ∙ r.2;
          },
          owner,
        )

    more : HaveSingles n ms shapes (k + 1) (old ++ own_singles n k m ss.items)
    more = record {
      each = λ x c. elim (Contains-append_cases old (own_singles n k m ss.items) x c) [
        | inl d ↦ let h = have.each x d in let low = h.1 in (h.0, omega (arith, low))
        | inr d ↦ let h = owned x d in let same = h.1 in (h.0, omega (arith, same))
      ];
      every = λ i m' ss' s x low f g c h. elim (cases_lt i k) [
        | inl l ↦ Contains-append_left old (own_singles n k m ss.items) x (have.every i m' ss' s x l f g c h)
        | inr l ↦
            let at : i ≡ k = omega (arith, l, low) in
            let one : m' ≡ m = same_Some m' m (sym f ∙ ap (slice_get ms) at ∙ is) in
            let other : ss' ≡ ss = same_Some ss' ss (sym g ∙ ap (slice_get shapes) at ∙ are) in
            Contains-append_right old (own_singles n k m ss.items) x
            (to-filter own ss.items s x (subst (λ (v : Vec Shape). Contains v.items s) other c)
            (ap₂ (λ (o : ℕ) (z : Module). single_with o (enough n (recs_of z.bytes) s.segment) s) (sym at) (sym one) ∙ h))
      ];
    }

    pub singles-next : HaveSingles n ms shapes (k + 1) new
    singles-next = subst (HaveSingles n ms shapes (k + 1)) (sym e) more

    pub apart-next : AreNumbered 1 ss.items → AreApart old → AreApart new
    apart-next numbered h = subst AreApart (sym e) (pairs-append (λ x y. same_key x y ≡ false) old (own_singles n k m ss.items) h
        (own-apart own (λ s x f. (single-parts k (enough n (recs_of m.bytes) s.segment) s x f).segment_is) 1 ss.items numbered) (λ x y c d.
        let before = (have.each x c).1 in
        let here = (owned y d).1 in
        other x y (x.segment == y.segment) (eqb_tells x.owner y.owner) (omega (arith, before, here))))
      where
        other : (x y : Single) (b : Bool) → (((x.owner == y.owner) ≡ true) × (x.owner ≡ y.owner)) ⊎ (((x.owner == y.owner) ≡ false) × (x.owner ≡ y.owner → ⊥)) → x.owner < y.owner → ((x.owner == y.owner) && b) ≡ false
        other x y b (inl u) less = absurd (let same = u.1 in omega (arith, same, less))
        other x y b (inr u) less = ap (λ (t : Bool). t && b) u.0

pub numbered-of : (program : Program) (most : ℕ) (ms : List Module) (shapes : List (Vec Shape)) → AllZip (HasShapes program most) ms shapes → (k : ℕ) (m : Module) (ss : Vec Shape) → slice_get ms k ≡ Some m → slice_get shapes k ≡ Some ss → AreNumbered 1 ss.items
numbered-of program most ms shapes h k m ss e f j s g = let n = (zip-get (HasShapes program most) ms shapes k m ss h e f).numbered j s g in omega (arith, n)

-- ---- those without a rival

-- The segments of the first k that have no rival are among those that are added, or the last one is it.
pub record AreSwept (sorted : List Single) (k : ℕ) (last : Option Rated) (alone : Keys) : Type 0 where
  pub each : (x : Single) (p : ℕ) → p < k → slice_get sorted p ≡ Some x → IsUnrivaledAmong sorted x → IsKept last x ⊎ (has_key alone x.owner x.segment ≡ true)
  pub last_is : IfSome last (λ r. (p : ℕ) × (p < k) × (slice_get sorted p ≡ Some r.single))

flips : (x y : Single) → same_key x y ≡ same_key y x
flips x y = ap₂ (λ (a b : Bool). a && b) (eqb-swap x.owner y.owner) (eqb-swap x.segment y.segment)
  where
    eqb-swap : (a b : ℕ) → (a == b) ≡ (b == a)
    eqb-swap a b = elim (eqb_tells a b) [
      | inl t ↦ t.0 ∙ sym (eq-eqb b a (sym t.1))
      | inr t ↦ elim (eqb_tells b a) [
        | inl u ↦ absurd (t.1 (sym u.1))
        | inr u ↦ t.0 ∙ sym u.0
      ]
    ]

same-swap : (x y : Single) → same_key x y ≡ false → same_key y x ≡ false
same-swap x y e = flips y x ∙ e

pub apart-moved : (all sorted : List Single) → IsPermutation all sorted → AreApart all → AreApart sorted
apart-moved all sorted moved h i j d less low = apart_from_distinct same_key sorted i j d (IsDistinct-IsPermutation same_key flips all sorted moved (IsDistinct-from_apart same_key all h)) less low

module _ (sorted : List Single) (rises : IsNonDecreasingBy (λ x. x.start) sorted) (apart : AreApart sorted) (whole : All (λ x. x.start < x.end) sorted) where
  got : (k : ℕ) (x : Single) → slice_get sorted k ≡ Some x → Contains sorted x
  got k x e = (k, slice_get_within sorted k x e, get_or_at sorted k x e)
    where
      get_or_at : (xs : List Single) (k : ℕ) (x : Single) → slice_get xs k ≡ Some x → get_or xs k x ≡ x
      get_or_at [] k x e = absurd (none-some x e)
      get_or_at (y ∷ ys) zero x e = same_Some y x e
      get_or_at (y ∷ ys) (suc k) x e = get_or_at ys k x e

  order : (p k : ℕ) (x y : Single) → p ≤ k → slice_get sorted p ≡ Some x → slice_get sorted k ≡ Some y → x.start ≤ y.start
  unfolding got
  order p k x y less e f =
      let one = got p x e in
      let other = got k y f in
      let h = rises p k x less other.1 in
      let there : get_or sorted k x ≡ y = get_as sorted k x y f in
      let here = ap (λ (z : Single). z.start) one.2 in
      let last = ap (λ (z : Single). z.start) there in
      omega (arith, h, here, last)
    where
      get_as : (xs : List Single) (k : ℕ) (d y : Single) → slice_get xs k ≡ Some y → get_or xs k d ≡ y
      get_as [] k d y e = absurd (none-some y e)
      get_as (z ∷ zs) zero d y e = same_Some z y e
      get_as (z ∷ zs) (suc k) d y e = get_as zs k d y e

  differ : (p k : ℕ) (x y : Single) → p < k → slice_get sorted p ≡ Some x → slice_get sorted k ≡ Some y → same_key x y ≡ false
  unfolding got
  differ p k x y less e f =
      let one = got p x e in
      let other = got k y f in
      let h = apart p k y less other.1 in
      subst (λ (z : Single). same_key z y ≡ false) (get_as sorted p y x e) (subst (λ (z : Single). same_key (get_or sorted p y) z ≡ false) other.2 h)
    where
      get_as : (xs : List Single) (k : ℕ) (d y : Single) → slice_get xs k ≡ Some y → get_or xs k d ≡ y
      get_as [] k d y e = absurd (none-some y e)
      get_as (z ∷ zs) zero d y e = same_Some z y e
      get_as (z ∷ zs) (suc k) d y e = get_as zs k d y e

  long : (k : ℕ) (x : Single) → slice_get sorted k ≡ Some x → x.start < x.end
  long k x e = let c = got k x e in subst (λ (z : Single). z.start < z.end) c.2 (whole c.0 x c.1)

  pub swept-first : (last : Option Rated) (alone : Keys) → last ≡ None → AreSwept sorted 0 last alone
  swept-first last alone e = subst (λ (o : Option Rated). AreSwept sorted 0 o alone) (sym e) (record { each = λ x p low. absurd (omega (arith, low)); last_is = tt })

  -- one that overlaps the last one
  pub swept-over : (k : ℕ) (y : Single) (before new : Rated) (last : Option Rated) (alone : Keys) → slice_get sorted k ≡ Some y → last ≡ Some before → y.start < before.single.end
      → (before.single.closed < y.closed → new ≡ record { single = y; is_rivaled = false }) → (y.closed < before.single.closed → new ≡ before) → (new.single ≡ before.single) ⊎ (new.single ≡ y)
      → AreSwept sorted k last alone → AreSwept sorted (k + 1) (Some new) alone
  swept-over k y before new last alone at is over stronger weaker either h = record {
    each = λ x p low e free. elim (cases_lt p k) [
      | inl l ↦ elim (h.each x p l e free) [
        | inl kept ↦
            let mine = subst (λ (o : Option Rated). IsKept o x) is kept in
            let begins = order p k x y (omega (arith, l)) e at in
            let ends = long k y at in
            let same : before.single ≡ x = mine.0 in
            let over' : y.start < x.end = subst (λ (z : Single). y.start < z.end) same over in
            let fewer : y.closed < x.closed = free y (got k y at) (differ p k x y l e at) (omega (arith, begins, ends)) over' in
            let stays = weaker (subst (λ (z : Single). y.closed < z.closed) (sym same) fewer) in
            inl (ap (λ (r : Rated). r.single) stays ∙ same, ap (λ (r : Rated). r.is_rivaled) stays ∙ mine.1)
        | inr has ↦ inr has
      ]
      | inr l ↦
          let here : p ≡ k = omega (arith, l, low) in
          let one : x ≡ y = same_Some x y (sym e ∙ ap (slice_get sorted) here ∙ at) in
          let shown = subst (λ (o : Option Rated). IfSome o (λ r. (q : ℕ) × (q < k) × (slice_get sorted q ≡ Some r.single))) is h.last_is in
          let begins = order shown.0 k before.single y (let q = shown.1 in omega (arith, q)) shown.2 at in
          let ends = long k y at in
          let free' = subst (IsUnrivaledAmong sorted) one free in
          let more : before.single.closed < y.closed = free' before.single (got shown.0 before.single shown.2) (same-swap before.single y (differ shown.0 k before.single y shown.1 shown.2 at)) over (omega (arith, begins, ends)) in
          let turns = stronger more in
          inl (ap (λ (r : Rated). r.single) turns ∙ sym one, ap (λ (r : Rated). r.is_rivaled) turns)
    ];
    last_is = elim either [
      | inl same ↦
          let shown = subst (λ (o : Option Rated). IfSome o (λ r. (q : ℕ) × (q < k) × (slice_get sorted q ≡ Some r.single))) is h.last_is in
          (shown.0, (let q = shown.1 in omega (arith, q)), shown.2 ∙ ap Some (sym same))
      | inr same ↦ (k, omega arith, at ∙ ap Some (sym same))
    ];
  }

  -- one that does not
  pub swept-past : (k : ℕ) (y : Single) (last : Option Rated) (old new : Keys) → slice_get sorted k ≡ Some y → IsAdded old new last → AreSwept sorted k last old → AreSwept sorted (k + 1) (Some (record { single = y; is_rivaled = false })) new
  swept-past k y last old new at added h = record {
    each = λ x p low e free. elim (cases_lt p k) [
      | inl l ↦ elim (h.each x p l e free) [ inl kept ↦ inr (added.adds x kept) | inr has ↦ inr (added.keeps x.owner x.segment has) ]
      | inr l ↦
          let here : p ≡ k = omega (arith, l, low) in
          let one : y ≡ x = same_Some y x (sym at ∙ ap (slice_get sorted) (sym here) ∙ e) in
          inl (one, refl)
    ];
    last_is = (k, omega arith, at);
  }

  pub swept-next : (k : ℕ) (y : Single) (last : Option Rated) (r : Rated) (old new : Keys) → slice_get sorted k ≡ Some y → IsStep old new last y r → AreSwept sorted k last old → AreSwept sorted (k + 1) (Some r) new
  swept-next k y last r old new at (inl s) h = subst (AreSwept sorted (k + 1) (Some r)) (sym s.6) (swept-over k y s.0 r last old at s.1 s.2 s.3 s.4 s.5 h)
  swept-next k y last r old new at (inr s) h = subst (λ (q : Rated). AreSwept sorted (k + 1) (Some q) new) (sym s.0) (swept-past k y last old new at s.1 h)

  pub swept-all : (k : ℕ) (last : Option Rated) (old new : Keys) → length sorted ≤ k → IsAdded old new last → AreSwept sorted k last old → (x : Single) → Contains sorted x → IsUnrivaledAmong sorted x → has_key new x.owner x.segment ≡ true
  swept-all k last old new all added h x c free =
      let low = c.1 in
      elim (h.each x c.0 (omega (arith, low, all)) (slice-at sorted c.0 x c.1 c.2) free) [ inl kept ↦ added.adds x kept | inr has ↦ added.keeps x.owner x.segment has ]

-- ---- in a program

pub whole-moved : (n : ℕ) (ms : List Module) (shapes : List (Vec Shape)) (k : ℕ) (all sorted : List Single) → IsPermutation all sorted → HaveSingles n ms shapes k all → All (λ x. x.start < x.end) sorted
whole-moved n ms shapes k all sorted moved have i d low =
    let x = get_or sorted i d in
    let own = (have.each x (Contains-permutation sorted all x (IsPermutation-sym all sorted moved) (Contains-get_or sorted i d low))).0 in
    (single-parts x.owner (enough n (recs_of own.m.bytes) own.s.segment) own.s x own.is).long

module _ (program : Program) (most : ℕ) where
  pub only-at : (m : Module) (s : Shape) (address : ℕ) → IsInside program → IsShapeOf program most m s → s.places.items ≡ address ∷ [] → s.more ≡ false → IsOnlyAt program m s.segment address
  only-at m s address inside h one all = record {
    there = h.places.agree address (subst (λ (xs : List ℕ). Contains xs address) (sym one) (contains_here address []));
    only = λ other at. elim (contains_first other address [] (subst (λ (xs : List ℕ). Contains xs other) one (h.places.all all inside other at))) [
      | inl e ↦ e
      | inr d ↦ absurd (let low = d.1 in omega (arith, low))
    ];
  }

  pub all-singles : (n : ℕ) (ms : List Module) (shapes : List (Vec Shape)) (all sorted : List Single) (alone : Keys) → AllZip (HasShapes program most) ms shapes → HaveSingles n ms shapes (length ms) all → IsPermutation all sorted
      → ((x : Single) → Contains sorted x → IsUnrivaledAmong sorted x → has_key alone x.owner x.segment ≡ true) → AreSingles program n ms shapes alone
  all-singles n ms shapes all sorted alone zipped have moved swept inside i m ss s x is are of e unrivaled =
      let parts = single-parts i (enough n (recs_of m.bytes) s.segment) s x e in
      let there = Contains-permutation all sorted x moved (have.every i m ss s x (slice_get_within ms i m is) is are of e) in
      subst (λ (o : ℕ). has_key alone o s.segment ≡ true) parts.owner_is (subst (λ (o : ℕ). has_key alone x.owner o ≡ true) parts.segment_is (swept x there (free parts)))
    where
      free : HasParts i (enough n (recs_of m.bytes) s.segment) s x → IsUnrivaledAmong sorted x
      free parts y c apart over under = elim (leb_tells x.closed y.closed) [
        | inl t ↦ absurd (unrivaled (rival t.1))
        | inr t ↦ t.1
      ]
        where
          own : IsOwned n ms shapes y
          own = (have.each y (Contains-permutation sorted all y (IsPermutation-sym all sorted moved) c)).0

          other : HasParts y.owner (enough n (recs_of own.m.bytes) own.s.segment) own.s y
          other = single-parts y.owner (enough n (recs_of own.m.bytes) own.s.segment) own.s y own.is

          shape : IsShapeOf program most own.m own.s
          shape = (zip-get (HasShapes program most) ms shapes y.owner own.m own.ss zipped own.module_is own.shapes_are).each own.s own.of

          mine : IsShapeOf program most m s
          mine = (zip-get (HasShapes program most) ms shapes i m ss zipped is are).each s of

          rival : x.closed ≤ y.closed → IsRivaled program ms i m s.segment x.address s.closed
          rival more = record {
            number = y.owner;
            other = own.m;
            other_is = own.module_is;
            own = own.s.segment;
            apart = λ both.
                let owners : x.owner ≡ y.owner = parts.owner_is ∙ sym both.0 in
                let segments : x.segment ≡ y.segment = parts.segment_is ∙ sym both.1 ∙ sym other.segment_is in
                true≢false (sym (and-both (x.owner == y.owner) (x.segment == y.segment) (eq-eqb x.owner y.owner owners) (eq-eqb x.segment y.segment segments)) ∙ apart);
            place = y.address;
            alone = only-at own.m own.s y.address inside shape other.places other.all;
            bytes = shape.measured.bytes;
            closed = shape.measured.are;
            many = let a = parts.closed_is in let b = other.closed_is in let d = shape.measured.count in omega (arith, more, a, b, d);
            at = meeting.0;
            here = meeting.1;
            there = meeting.2;
          }
            where
              ends : (t : Shape) (z : Single) → z.end ≡ min (z.address + t.end) (2 ^ 64 - 1) → z.end ≤ z.address + t.end
              ends t z f = let le = min-le_left (z.address + t.end) (2 ^ 64 - 1) in omega (arith, f, le)

              positive : (t : Shape) (z : Single) → z.start ≡ z.address + t.first → z.end ≡ min (z.address + t.end) (2 ^ 64 - 1) → z.start < z.end → 0 < t.end
              positive t z f g h = let le = ends t z g in omega (arith, f, h, le)

              at-own : (at : ℕ) → x.start ≤ at → at < x.end → Spans (bytes_of m s.segment) x.address at
              at-own at from to =
                  let extents = mine.measured.extent.some (positive s x parts.start_is parts.end_is parts.long) in
                  let begins = parts.start_is in
                  let le = ends s x parts.end_is in
                  record { first = s.first; last = s.end - 1; first_is = extents.1; last_is = extents.2; from = omega (arith, begins, from); to = omega (arith, to, le) }

              at-other : (at : ℕ) → y.start ≤ at → at < y.end → Spans (bytes_of own.m own.s.segment) y.address at
              at-other at from to =
                  let extents = shape.measured.extent.some (positive own.s y other.start_is other.end_is other.long) in
                  let begins = other.start_is in
                  let le = ends own.s y other.end_is in
                  record { first = own.s.first; last = own.s.end - 1; first_is = extents.1; last_is = extents.2; from = omega (arith, begins, from); to = omega (arith, to, le) }

              meeting : (at : ℕ) × Spans (bytes_of m s.segment) x.address at × Spans (bytes_of own.m own.s.segment) y.address at
              meeting = elim (leb_tells x.start y.start) [
                | inl t ↦ let le = t.1 in let far = other.long in (y.start, at-own y.start le under, at-other y.start (omega arith) far)
                | inr t ↦ let lt = t.1 in (x.start, at-own x.start (omega arith) parts.long, at-other x.start (omega (arith, lt)) over)
              ]
