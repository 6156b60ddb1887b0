-- The segments that are nearly in a program.
use Rattle.std.proofs.Common.{◌≡◌, ◌⊎◌, inl, inr, ℕ, zero, suc, ◌+◌, ◌<◌, ◌≤◌, Bool, true, false, List, [], ◌∷◌, ◌++◌, length, take, drop, Option, Some, None, refl, sym, ap, subst, ◌∙◌, arith}
use Rattle.std.specs.Prelude.{Contains, IsSome, get_or, is_some, option_to_list, filter_map, flat_map, nat_le, if◌then◌else◌}
use Rattle.std.proofs.lemmas.Bool.Decides.{leb_tells}
use Rattle.std.proofs.lemmas.Bool.{leb-true, le-leb}
use Rattle.std.proofs.lemmas.Option.{cond_some}
use Rattle.std.proofs.lemmas.List.{append-nil, get_or_default, length-append, take_all, take_more, take-append-drop}
use Rattle.std.proofs.lemmas.List.Elements.{Contains-append_left, Contains-push, Contains-push_cases, filter_map-append}
use Rattle.omf_check.specs.Module.{Module, recs_of}
use Rattle.omf_check.specs.Sound.{ModuleHolds}
use Rattle.omf_check.specs.Tables.{segments}
use Rattle.omf_image.specs.Limits.{profile_limits}
use Rattle.omf_finding.specs.Agrees.{HasFour}
use Rattle.omf_finding.specs.Finding.{IsInside}
use Rattle.omf_finding.specs.Near.{AreClosed, AreNear, IsAmong, IsFar, IsNear, IsSame, IsTried, differences, differing}
use Rattle.omf_finding.specs.Run.{closed_byte}
use Rattle.omf_finding.specs.Inner.Nearing.{AreNearOf, IsBest, IsNearOf, IsShownOf, better, better_by, few_differences, one_more}
use Rattle.omf_finding.specs.Inner.Measuring.{closed_in}
use Rattle.omf_finding.specs.Inner.Shaping.{AreIntervals, bytes_of}
use Rattle.omf_finding.specs.declared.closed.ClosedByte.{ClosedByte}
use Rattle.omf_finding.specs.declared.nearing.Difference.{Difference}
use Rattle.omf_finding.specs.declared.nearing.Near.{Near}
use Rattle.omf_finding.specs.declared.nearing.Place.{Place}
use Rattle.omf_finding.specs.declared.patterning.Interval.{Interval}
use Rattle.omf_finding.specs.declared.patterning.PatternByte.{PatternByte}
use Rattle.omf_finding.specs.declared.program.Program.{Program}
use Rattle.omf_finding.proofs.CandidateLaws.{sought-defined, take-cases}
use Rattle.omf_finding.proofs.ClosedLaws.{are-closed, filter-one}
use Rattle.omf_finding.proofs.ShapeLaws.{fours-as}
use Rattle.omf_finding.proofs.ShownLaws.{AreFourOf, four-back, tried-shown}

-- ---- the number of differences

module _ {A B : Type 0} (h : A → Option B) (xs : List A) where
  abbrev found : ℕ → List B
  found k = filter_map h (take k xs)

  found-more : (k : ℕ) (x : A) → x ≡ get_or xs k x → k < length xs → found (k + 1) ≡ found k ++ option_to_list (h x)
  found-more k x e low =
      ap (filter_map h) (take_more xs k x low) ∙ filter_map-append h (take k xs) (get_or xs k x ∷ [])
      ∙ ap (λ (y : A). found k ++ filter_map h (y ∷ [])) (sym e) ∙ ap (λ (ys : List B). found k ++ ys) (filter-one h x)

  one-long : (o : Option B) → is_some o ≡ true → length (option_to_list o) ≡ 1
  one-long None e = absurd cc
  one-long (Some y) e = refl

  none-long : (o : Option B) → is_some o ≡ false → option_to_list o ≡ []
  none-long None e = refl
  none-long (Some y) e = absurd cc

  pub count-some : (k : ℕ) (x : A) (n : ℕ) → x ≡ get_or xs k x → k < length xs → is_some (h x) ≡ true → n ≡ length (found k) → n + 1 ≡ length (found (k + 1))
  count-some k x n e low some is =
      let long = length-append (found k) (option_to_list (h x)) in
      let one = one-long (h x) some in
      let more = ap (λ (ys : List B). length ys) (found-more k x e low) in
      omega (arith, is, long, one, more)

  pub count-none : (k : ℕ) (x : A) (n : ℕ) → x ≡ get_or xs k x → k < length xs → is_some (h x) ≡ false → n ≡ length (found k) → n ≡ length (found (k + 1))
  count-none k x n e low none is = is ∙ ap (λ (ys : List B). length ys) (sym (found-more k x e low ∙ ap (λ (ys : List B). found k ++ ys) (none-long (h x) none) ∙ append-nil (found k)))

  found-few : (k : ℕ) → length (found k) ≤ length (filter_map h xs)
  found-few k =
      let whole = ap (λ (ys : List B). length ys) (sym (filter_map-append h (take k xs) (drop k xs)) ∙ ap (filter_map h) (take-append-drop k xs)) in
      let long = length-append (found k) (filter_map h (drop k xs)) in
      omega (arith, whole, long)

  too-many : (most a : ℕ) → most < a → few_differences most a ≡ None
  too-many most a less = elim (leb_tells a most) [ inl t ↦ absurd (omega (arith, t.1, less)) | inr t ↦ ap (λ (b : Bool). if b then Some a else None) t.0 ]

  module _ (k : ℕ) (x : A) (n most : ℕ) (e : x ≡ get_or xs k x) (low : k < length xs) (is : n ≡ length (found k)) where
    -- the count after one more element
    pub count-next : (new : ℕ) → one_more most n (is_some (h x)) ≡ Some new → new ≡ length (found (k + 1))
    count-next new q = by (is_some (h x)) refl q
      where
        by : (b : Bool) → is_some (h x) ≡ b → one_more most n b ≡ Some new → new ≡ length (found (k + 1))
        by true f q = sym (cond_some (nat_le (n + 1) most) (n + 1) new q).1 ∙ count-some k x n e low f is
        by false f q = let same : n ≡ new = cc in sym same ∙ count-none k x n e low f is

    pub count-low : n ≤ most → (new : ℕ) → one_more most n (is_some (h x)) ≡ Some new → new ≤ most
    count-low few new q = by (is_some (h x)) q
      where
        by : (b : Bool) → one_more most n b ≡ Some new → new ≤ most
        by true q =
            let c = cond_some (nat_le (n + 1) most) (n + 1) new q in
            let least = leb-true (n + 1) most c.0 in
            let same = c.1 in
            omega (arith, least, same)
        by false q = let same : n ≡ new = cc in omega (arith, few, same)

    -- there are too many
    pub count-past : one_more most n (is_some (h x)) ≡ None → few_differences most (length (filter_map h xs)) ≡ None
    count-past q = by (is_some (h x)) refl q
      where
        by : (b : Bool) → is_some (h x) ≡ b → one_more most n b ≡ None → few_differences most (length (filter_map h xs)) ≡ None
        by true f q = elim (leb_tells (n + 1) most) [
          | inl t ↦ absurd (let some : one_more most n true ≡ Some (n + 1) = ap (λ (b : Bool). if b then Some (n + 1) else None) t.0 in let both : None ≡ Some (n + 1) = sym q ∙ some in cc)
          | inr t ↦
              let next = count-some k x n e low f is in
              let few = found-few (k + 1) in
              too-many most (length (filter_map h xs)) (omega (arith, next, few, t.1))
        ]
        by false f q = absurd cc

  pub count-all : (k n most : ℕ) → length xs ≤ k → n ≡ length (found k) → n ≤ most → few_differences most (length (filter_map h xs)) ≡ Some n
  count-all k n most long is few =
      let whole : length (found k) ≡ length (filter_map h xs) = ap (λ (ys : List A). length (filter_map h ys)) (take_all k xs long) in
      let same : length (filter_map h xs) ≡ n = omega (arith, whole, is) in
      ap (few_differences most) same ∙ ap (λ (b : Bool). if b then Some n else None) (le-leb n most few)

-- ---- the number of differences of a segment

module _ (program : List ℕ) (base address most : ℕ) (xs : List ClosedByte) where
  abbrev differs : ClosedByte → Option Difference
  differs = differing program base address

  module _ (k : ℕ) (d : ClosedByte) (n : ℕ) (low : k < length xs) (o : Option Difference) (e : o ≡ differs (get_or xs k d)) (b : Bool) (f : b ≡ is_some o) (is : n ≡ length (differences program base address (take k xs))) where
    abbrev own-byte : ClosedByte
    own-byte = get_or xs k d

    here : own-byte ≡ get_or xs k own-byte
    here = get_or_default xs k d own-byte low

    own : b ≡ is_some (differs own-byte)
    own = f ∙ ap is_some e

    moved : (r : Option ℕ) → r ≡ one_more most n b → one_more most n (is_some (differs own-byte)) ≡ r
    moved r q = ap (one_more most n) (sym own) ∙ sym q

    pub few-count : (new : ℕ) → Some new ≡ one_more most n b → new ≡ length (differences program base address (take (k + 1) xs))
    few-count new q = count-next differs xs k own-byte n most here low is new (moved (Some new) q)

    pub few-low : n ≤ most → (new : ℕ) → Some new ≡ one_more most n b → new ≤ most
    few-low few new q = count-low differs xs k own-byte n most here low is few new (moved (Some new) q)

    pub few-past : None ≡ one_more most n b → few_differences most (length (differences program base address xs)) ≡ None
    few-past q = count-past differs xs k own-byte n most here low is (moved None q)

-- ---- the best place

module _ (count : ℕ → ℕ) (most : ℕ) where
  pub best-first : (xs : List ℕ) → IsBest count most (take 0 xs) None
  best-first xs a c = absurd (omega (arith, c.1))

  module _ (xs : List ℕ) (k x : ℕ) (is : x ≡ get_or xs k x) (low : k < length xs) where
    best-same : (old : Option Place) → most < count x → IsBest count most (take k xs) old → IsBest count most (take (k + 1) xs) old
    best-same None many h = λ a c. elim (take-cases xs k x a is low c) [ inl d ↦ h a d | inr e ↦ subst (λ (n : ℕ). most < count n) e many ]
    best-same (Some p) many h = (
      h.0,
      h.1,
      λ a c. elim (take-cases xs k x a is low c) [
        | inl d ↦ h.2 a d
        | inr e ↦ let few = h.1 in subst (λ (n : ℕ). p.count ≤ count n) e (omega (arith, few, many))
      ],
    )

    best-new : (old : Option Place) → count x ≤ most → IsBest count most (take k xs) old → IsBest count most (take (k + 1) xs) (better_by old (record { address = x; count = count x }))
    best-new None few h = (
      refl,
      few,
      λ a c. elim (take-cases xs k x a is low c) [
        | inl d ↦ let more = h a d in omega (arith, few, more)
        | inr e ↦ subst (λ (n : ℕ). count x ≤ count n) e (omega arith)
      ],
    )
    best-new (Some p) few h = elim (leb_tells p.count (count x)) [
      | inl t ↦ subst (λ (o : Option Place). IsBest count most (take (k + 1) xs) o) (sym (ap (λ (b : Bool). if b then Some p else Some (let q : Place = record { address = x; count = count x } in q)) t.0)) (
        h.0,
        h.1,
        λ a c. elim (take-cases xs k x a is low c) [ inl d ↦ h.2 a d | inr e ↦ subst (λ (n : ℕ). p.count ≤ count n) e t.1 ],
      )
      | inr t ↦ subst (λ (o : Option Place). IsBest count most (take (k + 1) xs) o) (sym (ap (λ (b : Bool). if b then Some p else Some (let q : Place = record { address = x; count = count x } in q)) t.0)) (
        refl,
        few,
        λ a c. elim (take-cases xs k x a is low c) [
          | inl d ↦ let more = h.2 a d in omega (arith, more, t.1)
          | inr e ↦ subst (λ (n : ℕ). count x ≤ count n) e (omega arith)
        ],
      )
    ]

    pub best-next : (old new : Option Place) (n : Option ℕ) → n ≡ few_differences most (count x) → new ≡ better old x n → IsBest count most (take k xs) old → IsBest count most (take (k + 1) xs) new
    best-next old new n e q h = elim (leb_tells (count x) most) [
      | inl t ↦
          let some : n ≡ Some (count x) = e ∙ ap (λ (b : Bool). if b then Some (count x) else None) t.0 in
          subst (λ (o : Option Place). IsBest count most (take (k + 1) xs) o) (sym (q ∙ ap (better old x) some)) (best-new old t.1 h)
      | inr t ↦
          let none : n ≡ None = e ∙ ap (λ (b : Bool). if b then Some (count x) else None) t.0 in
          subst (λ (o : Option Place). IsBest count most (take (k + 1) xs) o) (sym (q ∙ ap (better old x) none)) (best-same old t.1 h)
    ]

  pub best-last : (xs : List ℕ) (k : ℕ) → length xs ≤ k → (o : Option Place) → IsBest count most (take k xs) o → IsBest count most xs o
  best-last xs k long o h = subst (λ (ys : List ℕ). IsBest count most ys o) (take_all k xs long) h

-- ---- one segment

module _ (byte : ℕ → Option PatternByte) (is : List Interval) (are : AreIntervals byte is) (program : Program) (most segment : ℕ) (addresses : List ℕ) (all : (a : ℕ) → IsShownOf program.bytes.items program.base is a → Contains addresses a) (bytes : List ClosedByte) (listed : bytes ≡ flat_map closed_in is) where
  abbrev differ : ℕ → List Difference
  differ a = differences program.bytes.items program.base a bytes

  abbrev Best : Option Place → Type 0
  Best o = IsBest (λ a. length (differ a)) most addresses o

  closed : AreClosed byte bytes
  closed = subst (AreClosed byte) (sym listed) (are-closed byte is are)

  tried : IsInside program → (a : ℕ) → IsTried byte program.bytes.items program.base a → Contains addresses a
  tried fits a h = all a (tried-shown byte is are program.bytes.items program.base a fits h)

  pub near-none : Best None → IsNearOf byte program most segment None
  near-none h fits a t = inr (record { bytes = bytes; closed = closed; many = h a (tried fits a t) })

  pub near-same : (p : Place) → Best (Some p) → p.count ≤ 0 → IsNearOf byte program most segment None
  near-same p h none fits a t =
      let count = h.0 in
      inl (record { bytes = bytes; closed = closed; address = p.address; same = empty (differ p.address) (omega (arith, count, none)) })
    where
      empty : (xs : List Difference) → length xs ≤ 0 → xs ≡ []
      empty [] low = refl
      empty (x ∷ xs) low = absurd (omega (arith, low))

  pub near-some : (p : Place) → Best (Some p) → 0 < p.count → (n : Near) → n.segment ≡ segment → n.address ≡ p.address → n.closed ≡ length bytes → n.differences.items ≡ differ n.address → IsNearOf byte program most segment (Some n)
  near-some p h some n e at count same =
      let own : n.differences.items ≡ differ p.address = same ∙ ap differ at in
      let long = ap (λ (xs : List Difference). length xs) own in
      let counted = h.0 in
      let few = h.1 in (
        record {
          bytes = bytes;
          closed = closed;
          count = count;
          differ = same;
          some = omega (arith, long, counted, some);
          few = omega (arith, long, counted, few);
          fewest = λ fits a t. let least = h.2 a (tried fits a t) in omega (arith, long, counted, least);
        },
        e,
      )

-- ---- all segments

module _ (byte : ℕ → ℕ → Option PatternByte) (program : Program) (most : ℕ) where
  abbrev Are : ℕ → List Near → Type 0
  Are n ns = AreNearOf byte program most n ns

  pub nears-first : Are 0 []
  nears-first = record { each = λ n c. absurd (omega (arith, c.1)); every = λ fits segment a low high. absurd (omega (arith, low, high)) }

  abbrev IsDone : List Near → ℕ → ℕ → Type 0
  IsDone ns segment a = IsAmong ns segment ⊎ (IsSame (byte segment) program ⊎ IsFar (byte segment) program most a)

  kept : (ns more : List Near) (segment a : ℕ) → IsDone ns segment a → IsDone (ns ++ more) segment a
  kept ns more segment a (inl h) = inl (h.0, Contains-append_left ns more h.0 h.1, h.2)
  kept ns more segment a (inr h) = inr h

  pub nears-next : (n segment : ℕ) → segment ≡ n + 1 → (old new : List Near) (o : Option Near) → IsNearOf (byte segment) program most segment o → new ≡ old ++ option_to_list o → Are n old → Are (n + 1) new
  nears-next n segment own old new None one e h = subst (Are (n + 1)) (sym (e ∙ append-nil old)) (record {
    each = h.each;
    every = λ fits s a low high t. elim (leb_tells s n) [
      | inl u ↦ h.every fits s a low u.1 t
      | inr u ↦
          let same : segment ≡ s = omega (arith, own, u.1, high) in
          inr (subst (λ (k : ℕ). IsSame (byte k) program ⊎ IsFar (byte k) program most a) same (one fits a (subst (λ (k : ℕ). IsTried (byte k) program.bytes.items program.base a) (sym same) t)))
    ];
  })
  nears-next n segment own old new (Some near) one e h = subst (Are (n + 1)) (sym e) (record {
    each = λ x c. elim (Contains-push_cases old near x c) [
      | inl d ↦ h.each x d
      | inr q ↦ subst (λ (y : Near). IsNear (byte y.segment) program most y) q (subst (λ (k : ℕ). IsNear (byte k) program most near) (sym one.1) one.0)
    ];
    every = λ fits s a low high t. elim (leb_tells s n) [
      | inl u ↦ kept old (near ∷ []) s a (h.every fits s a low u.1 t)
      | inr u ↦ let same : segment ≡ s = omega (arith, own, u.1, high) in inl (near, Contains-push old near, one.1 ∙ same)
    ];
  })

  pub nears-last : (n count : ℕ) (ns : List Near) → count ≤ n → Are n ns → Are count ns
  nears-last n count ns low h = record { each = h.each; every = λ fits s a from to t. h.every fits s a from (omega (arith, to, low)) t }

-- ---- those of a module

module _ (f g : ℕ → Option PatternByte) (same : (x : ℕ) → f x ≡ g x) where
  closed-as : (cs : List ClosedByte) → AreClosed f cs → AreClosed g cs
  closed-as cs h = record {
    each = λ c k. sym (ap closed_byte (same c.offset)) ∙ h.each c k;
    every = λ x b e. h.every x b (ap closed_byte (same x) ∙ e);
    rising = h.rising;
  }

  tried-as : (program : List ℕ) (base address : ℕ) → IsTried f program base address → IsTried g program base address
  tried-as program base address h = record { x = h.x; at = h.at; key = h.key; closed = sym (fours-as f g same h.x) ∙ h.closed; there = h.there; place = h.place; rare = h.rare }

  same-as : (program : Program) → IsSame f program → IsSame g program
  same-as program h = record { bytes = h.bytes; closed = closed-as h.bytes h.closed; address = h.address; same = h.same }

  far-as : (program : Program) (most address : ℕ) → IsFar f program most address → IsFar g program most address
  far-as program most address h = record { bytes = h.bytes; closed = closed-as h.bytes h.closed; many = h.many }

some-of : (o : Option ℕ) (v : ℕ) → o ≡ Some v → IsSome o
some-of o v e = subst IsSome (sym e) refl

near-as : (f g : ℕ → Option PatternByte) → ((x : ℕ) → f x ≡ g x) → (program : Program) (most : ℕ) (n : Near) → IsNear f program most n → IsNear g program most n
near-as f g same program most n h = record {
  bytes = h.bytes;
  closed = closed-as f g same h.bytes h.closed;
  count = h.count;
  differ = h.differ;
  some = h.some;
  few = h.few;
  fewest = λ fits a t. h.fewest fits a (tried-as g f (λ x. sym (same x)) program.bytes.items program.base a t);
}

-- a segment that is tried has four closed bytes in a row
tried-four : (byte : ℕ → Option PatternByte) (program : List ℕ) (base address : ℕ) → IsTried byte program base address → HasFour byte
tried-four byte program base address h = record { x = h.x; each = each }
  where
    fours : AreFourOf (closed_byte (byte h.x)) (closed_byte (byte (h.x + 1))) (closed_byte (byte (h.x + 2))) (closed_byte (byte (h.x + 3))) h.key
    fours = four-back (closed_byte (byte h.x)) (closed_byte (byte (h.x + 1))) (closed_byte (byte (h.x + 2))) (closed_byte (byte (h.x + 3))) h.key h.closed

    each : (i : ℕ) → i < 4 → IsSome (closed_byte (byte (h.x + i)))
    each zero low = let z : h.x ≡ h.x + 0 = omega arith in subst (λ (n : ℕ). IsSome (closed_byte (byte n))) z (some-of (closed_byte (byte h.x)) fours.a fours.first)
    each (suc zero) low = some-of (closed_byte (byte (h.x + 1))) fours.b fours.second
    each (suc (suc zero)) low = some-of (closed_byte (byte (h.x + 2))) fours.c fours.third
    each (suc (suc (suc zero))) low = some-of (closed_byte (byte (h.x + 3))) fours.d fours.fourth
    each (suc (suc (suc (suc i)))) low = absurd (omega (arith, low))

pub module-nears : (m : Module) → ModuleHolds profile_limits (recs_of m.bytes) → (byte : ℕ → ℕ → Option PatternByte) → ((segment x : ℕ) → byte segment x ≡ bytes_of m segment x) → (program : Program) (most : ℕ) (ns : List Near)
    → AreNearOf byte program most (length (segments (recs_of m.bytes))) ns → AreNear program most m ns
module-nears m holds byte same program most ns h = record {
  each = λ n c. near-as (byte n.segment) (bytes_of m n.segment) (same n.segment) program most n (h.each n c);
  every = λ fits segment a t.
      let inside = sought-defined (recs_of m.bytes) holds segment (tried-four (bytes_of m segment) program.bytes.items program.base a t) in
      by segment a (h.every fits segment a inside.0 inside.1 (tried-as (bytes_of m segment) (byte segment) (λ x. sym (same segment x)) program.bytes.items program.base a t));
}
  where
    by : (segment a : ℕ) → IsAmong ns segment ⊎ (IsSame (byte segment) program ⊎ IsFar (byte segment) program most a) → IsAmong ns segment ⊎ (IsSame (bytes_of m segment) program ⊎ IsFar (bytes_of m segment) program most a)
    by segment a (inl x) = inl x
    by segment a (inr (inl x)) = inr (inl (same-as (byte segment) (bytes_of m segment) (same segment) program x))
    by segment a (inr (inr x)) = inr (inr (far-as (byte segment) (bytes_of m segment) (same segment) program most a x))
