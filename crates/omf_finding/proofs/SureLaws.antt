-- Modules that are sure by their bytes: the test finds each.
use Rattle.std.proofs.Common.{◌≡◌, ◌⊎◌, inl, inr, ℕ, zero, suc, ◌+◌, ◌-◌, ◌<◌, ◌≤◌, ◌^◌, min, Bool, true, false, not, List, [], ◌∷◌, length, Option, Some, None, refl, sym, ap, ap₂, subst, ◌∙◌, arith}
use Rattle.std.specs.Prelude.{◌==◌, ◌&&◌, Contains, IsSome, get_or, is_some, nat_le, nat_lt, slice_get, if◌then◌else◌}
use Rattle.std.specs.Global.{Vec}
use Rattle.std.specs.Slice.{IsItemAt}
use denote.Ref.{Bor}
use Rattle.std.specs.List.{AllZip, list_all}
use Rattle.std.specs.List.Sorted.{IsStrictlyIncreasing}
use Rattle.std.proofs.Math.Nat.{min-eq_left, min-eq_right}
use Rattle.std.proofs.lemmas.Bool.{and_from, and_parts}
use Rattle.std.proofs.lemmas.Bool.Decides.{leb_tells}
use Rattle.std.proofs.lemmas.List.Elements.{Contains-get_or}
use Rattle.std.proofs.lemmas.Option.{none-some, slice_get_within}
use Rattle.omf_check.specs.Module.{Module, recs_of}
use Rattle.omf_check.specs.Sound.{ModuleHolds}
use Rattle.omf_image.specs.Limits.{profile_limits}
use Rattle.omf_image.proofs.RunLaws.{contains_here, contains_more}
use Rattle.omf_placement.specs.declared.frame.Placed.{Placed}
use Rattle.omf_finding.specs.Chain.{Draft, draft_at, enough, present_at}
use Rattle.omf_finding.specs.Finding.{IsAt, IsCut, IsInside}
use Rattle.omf_finding.specs.Found.{program_byte}
use Rattle.omf_finding.specs.Sure.{IsRivaled, IsSureByBytes, IsSureSegment}
use Rattle.omf_finding.specs.Inner.Chaining.{has_joined}
use Rattle.omf_finding.specs.Inner.Shaping.{HasShapes, HaveShapes, IsShapeOf, bytes_of}
use Rattle.omf_finding.specs.Inner.Singling.{AreSingles, Keys, has_key, if_long, single_at, single_of_places, single_with}
use Rattle.omf_finding.specs.Inner.Surely.{HasSureShape, HaveSure, IsSureShape, IsUnsure, is_nowhere, is_whole}
use Rattle.omf_finding.specs.declared.chaining.Tried.{Tried}
use Rattle.omf_finding.specs.declared.findings.Found.{Found}
use Rattle.omf_finding.specs.declared.program.Program.{Program}
use Rattle.omf_finding.specs.declared.shapes.Shape.{Shape}
use Rattle.omf_finding.specs.declared.singles.Single.{Single}
use Rattle.omf_finding.proofs.AgreesLaws.{closed-some}
use Rattle.omf_finding.proofs.CandidateLaws.{nowhere-at, sought-defined, zip-long}
use Rattle.omf_finding.proofs.ChainLaws.{zip-get}
use Rattle.omf_finding.proofs.MeasureLaws.{slice-at}

-- ---- one place

-- strictly ascending numbers, all the same, are one at most
short : (xs : List ℕ) (a : ℕ) → IsStrictlyIncreasing xs → ((b : ℕ) → Contains xs b → b ≡ a) → length xs ≤ 1
short [] a h same = omega arith
short (x ∷ []) a h same = omega arith
short (x ∷ y ∷ xs) a h same =
    let less = h 0 (omega arith) in
    let one = same x (contains_here x (y ∷ xs)) in
    let other = same y (contains_more y x (y ∷ xs) (contains_here y xs)) in
    absurd (omega (arith, less, one, other))

the-one : (xs : List ℕ) (a : ℕ) → Contains xs a → length xs ≤ 1 → xs ≡ a ∷ []
the-one [] a c few = absurd (omega (arith, c.1))
the-one (x ∷ []) a c few = ap (λ (n : ℕ). n ∷ []) (first c.0 c.1 c.2)
  where
    first : (k : ℕ) → k < 1 → get_or (x ∷ []) k a ≡ a → x ≡ a
    first zero low e = e
    first (suc k) low e = absurd (omega (arith, low))
the-one (x ∷ y ∷ xs) a c few = absurd (omega (arith, few))

in-bounds : (program : List ℕ) (base address : ℕ) → IsSome (program_byte program base address) → address < base + length program
in-bounds program base address h = by (leb_tells base address)
  where
    got : (o : Option ℕ) → IsSome o → (v : ℕ) × (o ≡ Some v)
    got None h = absurd cc
    got (Some v) h = (v, refl)

    by : ((nat_le base address ≡ true) × (base ≤ address)) ⊎ ((nat_le base address ≡ false) × (address < base)) → address < base + length program
    by (inl t) =
        let v = got (slice_get program (address - base)) (subst IsSome (ap (λ (b : Bool). if b then slice_get program (address - base) else None) t.0) h) in
        let low = slice_get_within program (address - base) v.0 v.1 in
        let from = t.1 in
        omega (arith, low, from)
    by (inr t) = let less = t.1 in omega (arith, less)

-- ---- the test

lt-true : (a b : ℕ) → a < b → nat_lt a b ≡ true
lt-true a b h = elim (leb_tells (suc a) b) [ inl t ↦ t.0 | inr t ↦ absurd (let less = t.1 in omega (arith, less, h)) ]

le-true : (a b : ℕ) → a ≤ b → nat_le a b ≡ true
le-true a b h = elim (leb_tells a b) [ inl t ↦ t.0 | inr t ↦ absurd (let less = t.1 in omega (arith, less, h)) ]

single-is : (owner least : ℕ) (s : Shape) (address : ℕ) → s.places.items ≡ address ∷ [] → s.more ≡ false → least ≤ s.closed → min least 8 ≤ s.varied → (single_at owner s address).start < (single_at owner s address).end → single_with owner least s ≡ Some (single_at owner s address)
single-is owner least s address places all many vary long =
    ap (λ (b : Bool). if b then single_of_places owner s s.places.items s.more else None) (and_from (nat_le least s.closed) (nat_le (min least 8) s.varied) (le-true least s.closed many) (le-true (min least 8) s.varied vary))
    ∙ ap₂ (λ (ps : List ℕ) (more : Bool). single_of_places owner s ps more) places all
    ∙ ap (λ (b : Bool). if b then Some (single_at owner s address) else None) (lt-true (single_at owner s address).start (single_at owner s address).end long)

module _ (program : Program) (n most : ℕ) (ms : List Module) (shapes : List (Vec Shape)) (alone : Keys) (zipped : AllZip (HasShapes program most) ms shapes) (singles : AreSingles program n ms shapes alone) (number : ℕ) (m : Module) (ss : Vec Shape) (f : Found)
    (is : slice_get ms number ≡ Some m) (are : slice_get shapes number ≡ Some ss) (inside : IsInside program) (two : 1 < most) where
  have : HaveShapes program most m ss.items
  have = zip-get (HasShapes program most) ms shapes number m ss zipped is are

  module _ (s : Shape) (c : Contains ss.items s) (h : IsSureSegment program n ms number m f s.segment) where
    of : IsShapeOf program most m s
    of = have.each s c

    searched : s.is_searched ≡ true
    searched = of.sought h.sought

    few : length s.places.items ≤ 1
    few = short s.places.items h.place.address of.places.rising (λ b k. h.alone.only b (of.places.agree b k))

    all-known : s.more ≡ false
    all-known = by s.more refl
      where
        cut : IsCut (bytes_of m s.segment) program.bytes.items program.base most s.places.items → ⊥
        cut k = elim k.cause [
          | inl full ↦ let many = full.full in omega (arith, many, few, two)
          | inr common ↦ h.rare k.x k.key k.closed common.are
        ]

        by : (b : Bool) → s.more ≡ b → s.more ≡ false
        by true e = absurd (cut (of.cut searched e))
        by false e = e

    one-place : s.places.items ≡ h.place.address ∷ []
    one-place = the-one s.places.items h.place.address (of.places.all all-known inside h.place.address h.alone.there) few

    long : (single_at number s h.place.address).start < (single_at number s h.place.address).end
    long =
        let four = of.found searched in
        let some = closed-some (bytes_of m s.segment (four.x + 0)) (four.each 0 (omega arith)) in
        let extents = of.measured.extent.some (of.measured.extent.none (four.x + 0) some) in
        let begins = in-bounds program.bytes.items program.base (h.place.address + s.first) (h.alone.there.inside s.first extents.1) in
        let less = extents.0 in
        below (h.place.address + s.first) (h.place.address + s.end) (omega (arith, less)) (omega (arith, begins, inside))
      where
        below : (a b : ℕ) → a < b → a < 2 ^ 64 - 1 → a < min b (2 ^ 64 - 1)
        below a b low high = elim (leb_tells b (2 ^ 64 - 1)) [
          | inl t ↦ let e = min-eq_left t.1 in omega (arith, e, low)
          | inr t ↦ let less = t.1 in let far : 2 ^ 64 - 1 ≤ b = omega (arith, less) in let e = min-eq_right far in omega (arith, e, high)
        ]

    single : single_with number (enough n (recs_of m.bytes) s.segment) s ≡ Some (single_at number s h.place.address)
    single =
        let bytes = of.measured.bytes in
        let count = of.measured.count in
        let vary = of.measured.vary (ap length one-place) in
        let many = h.many bytes of.measured.are in
        let varies = h.vary bytes of.measured.are in
        single-is number (enough n (recs_of m.bytes) s.segment) s h.place.address one-place all-known (omega (arith, many, count)) (omega (arith, varies, vary)) long

    pub sure-shape : (t : Tried) → t.least ≡ n → t.singles.now.alone ≡ alone → IsSureShape t number m f s
    sure-shape t e g = record {
      single = single_at number s h.place.address;
      place = h.place;
      is = ap (λ (k : ℕ). single_with number (enough k (recs_of m.bytes) s.segment) s) e ∙ single;
      present = h.present;
      there = refl;
      alone = ap (λ (k : Keys). has_key k number s.segment) g
          ∙ singles inside number m ss s (single_at number s h.place.address) is are c single (λ r. h.unrivaled of.measured.bytes of.measured.are (subst (IsRivaled program ms number m s.segment h.place.address) of.measured.count r));
    }

  -- no segment is nowhere
  pub sure-whole : (segment : ℕ) → IsSureSegment program n ms number m f segment → is_whole ss.items ≡ true
  sure-whole segment h = all-true ss.items (λ s c. by s c (is_nowhere s) refl)
    where
      by : (s : Shape) → Contains ss.items s → (b : Bool) → is_nowhere s ≡ b → not (is_nowhere s) ≡ true
      by s c true e =
          let of = have.each s c in
          let sought = of.found (and_parts s.is_searched ((length s.places.items == 0) && not s.more) e).0 in
          let at = h.whole s.segment sought in
          absurd (nowhere-at program most m ss.items s have c e inside at.0 at.1)
      by s c false e = ap not e

      all-true : (xs : List Shape) → ((s : Shape) → Contains xs s → not (is_nowhere s) ≡ true) → is_whole xs ≡ true
      all-true [] k = refl
      all-true (x ∷ xs) k = and_from (not (is_nowhere x)) (is_whole xs) (k x (contains_here x xs)) (all-true xs (λ s c. k s (contains_more s x xs c)))

  pub sure-shapes : ModuleHolds profile_limits (recs_of m.bytes) → IsSureByBytes program n ms number m f → (t : Tried) → t.least ≡ n → t.singles.now.alone ≡ alone → HasSureShape t number m f ss.items
  sure-shapes holds h t e g =
      let sure = h.1 in
      let in-module = sought-defined (recs_of m.bytes) holds h.0 sure.sought in
      let shown = have.every h.0 in-module.0 in-module.1 in
      (sure-whole h.0 sure, shown.0, shown.1, sure-shape shown.0 shown.1 (subst (IsSureSegment program n ms number m f) (sym shown.2) sure) t e g)

-- each module has shapes
pub shapes-there : {X : Type 0} (program : Program) (most : ℕ) (ms : List Module) (shapes : List (Vec Shape)) (k : ℕ) (m : Module) → AllZip (HasShapes program most) ms shapes → slice_get ms k ≡ Some m → (o : Option X) → o ≡ None → is_some o ≡ nat_lt k (length shapes) → ⊥
shapes-there program most ms shapes k m zipped is o none e =
    let long = zip-long (HasShapes program most) ms shapes zipped in
    let low = slice_get_within ms k m is in
    absurd (let w : false ≡ true = sym (ap is_some none) ∙ e ∙ lt-true k (length shapes) (omega (arith, long, low)) in cc)

pub own-there : (shapes : List (Vec Shape)) (k : ℕ) (own : Bor (Vec Shape)) (o : Option (Bor (Vec Shape))) → o ≡ Some own → IsItemAt shapes k o → slice_get shapes k ≡ Some own.now
own-there shapes k own o e h = by (subst (IsItemAt shapes k) e h)
  where
    by : IsItemAt shapes k (Some own) → slice_get shapes k ≡ Some own.now
    by g = slice-at shapes k own.now (search (g, arith)) (search g)
