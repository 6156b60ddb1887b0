-- Segments are at their alignments, and do not overlap.
use Rattle.std.proofs.Common.{◌≡◌, ℕ, zero, suc, ◌+◌, ◌-◌, ◌*◌, ◌/◌, ◌<◌, ◌≤◌, List, [], ◌∷◌, ◌++◌, refl, sym, ap, ap₂, ◌∙◌, subst, inl, inr, arith, Bool, true, false}
use Rattle.std.proofs.Math.Nat.{mul_assoc}
use Rattle.std.specs.Prelude.{flat_map, max, Option, Some, None, slice_get, ◌&&◌, nat_lt, nat_le, ⊤}
use Rattle.std.specs.List.{filter}
use Rattle.std.proofs.lemmas.Bool.{ltb-true, leb-true, leb-false, and_parts, cases_Bool, cond-true, cond-false, false≢true}
use Rattle.std.proofs.lemmas.Option.{none-some, same_Some, cond_some, option_and_then_some}
use Rattle.omf_placement.specs.declared.frame.Frame.{Frame}
use Rattle.omf_placement.specs.declared.frame.Placed.{Placed}
use Rattle.omf_placement.specs.Placement.{absolute_place}
use Rattle.omf_layout.specs.Layout.{Laid, and_then_more, all_laid, segment_at, segment_laid}
use Rattle.omf_layout.specs.Laws.{IsMultiple}
use Rattle.omf_layout.specs.Room.{limit, next_multiple, address_from, frame_at}
use Rattle.omf_layout.specs.Wants.{bytes_aligned}
use Rattle.omf_layout.specs.declared.alignment.Alignment.{Alignment}
use Rattle.omf_layout.specs.declared.alignment.Alignment.TheVariants.{Byte, Word, Paragraph, Page, Dword, Block}
use Rattle.omf_layout.specs.declared.options.Frames.{Frames}
use Rattle.omf_layout.proofs.FitLaws.{map_some, first-of}
use Rattle.omf_layout.proofs.SeveralLaws.OrderedLaws.{those-in-runs, places-in-order}
use Rattle.omf_layout.specs.declared.several.portion.Combination.{Combination}
use Rattle.omf_layout.specs.declared.several.portion.Combination.TheVariants.{Joined, Common, Alone}
use Rattle.omf_layout.specs.declared.several.portion.Portion.{Portion}
use Rattle.omf_layout.specs.Several.Laws.{IsRelocatable, LiesWithin, LieApart, ArrangedLieApart}
use Rattle.omf_layout.specs.Several.Laying.{Lying, laid, and_then_after, address_of, lying_at, joined_in, joined_laid, strictest, longest, all_at, common_at, common_laid, lying_there, alone_laid, run_laid, runs_laid}
use Rattle.omf_layout.specs.Several.Order.{lies_by, is_same_combination, combined_by, in_order, runs}

no-lower : (x : Alignment) (n : ℕ) → n ≤ next_multiple (bytes_aligned x) n
no-lower Byte n = omega arith
no-lower Word n = omega arith
no-lower Paragraph n = omega arith
no-lower Page n = omega arith
no-lower Dword n = omega arith
no-lower Block n = omega arith

-- An address at or above a free one.
record IsFrom (frames : Frames) (step free size a : ℕ) : Type 0 where
  pub multiple : IsMultiple step a
  pub from : free ≤ a
  pub below : a < limit frames
  pub within : a + size ≤ limit frames

address-from : (frames : Frames) (free size : ℕ) (x : Alignment) (a : ℕ) → address_from frames (bytes_aligned x) free size ≡ Some a → IsFrom frames (bytes_aligned x) free size a
address-from frames free size x a h =
    let low = next_multiple (bytes_aligned x) free in
    let parts = cond_some (nat_lt low (limit frames) && nat_le (low + size) (limit frames)) low a h in
    let both = and_parts (nat_lt low (limit frames)) (nat_le (low + size) (limit frames)) parts.0 in
    subst (IsFrom frames (bytes_aligned x) free size) parts.1 (record {
      multiple = record { times = (free + (bytes_aligned x - 1)) / bytes_aligned x; product = refl };
      from = no-lower x free;
      below = ltb-true low (limit frames) both.0;
      within = leb-true (low + size) (limit frames) both.1;
    })

-- A stricter alignment is a multiple of a laxer one.
divides : (a b : Alignment) → bytes_aligned a ≤ bytes_aligned b → IsMultiple (bytes_aligned a) (bytes_aligned b)
divides Byte Byte h = record { times = 1; product = refl }
divides Byte Word h = record { times = 2; product = refl }
divides Byte Paragraph h = record { times = 16; product = refl }
divides Byte Page h = record { times = 256; product = refl }
divides Byte Dword h = record { times = 4; product = refl }
divides Byte Block h = record { times = 4096; product = refl }
divides Word Byte h = absurd (omega (arith, h))
divides Word Word h = record { times = 1; product = refl }
divides Word Paragraph h = record { times = 8; product = refl }
divides Word Page h = record { times = 128; product = refl }
divides Word Dword h = record { times = 2; product = refl }
divides Word Block h = record { times = 2048; product = refl }
divides Paragraph Byte h = absurd (omega (arith, h))
divides Paragraph Word h = absurd (omega (arith, h))
divides Paragraph Paragraph h = record { times = 1; product = refl }
divides Paragraph Page h = record { times = 16; product = refl }
divides Paragraph Dword h = absurd (omega (arith, h))
divides Paragraph Block h = record { times = 256; product = refl }
divides Page Byte h = absurd (omega (arith, h))
divides Page Word h = absurd (omega (arith, h))
divides Page Paragraph h = absurd (omega (arith, h))
divides Page Page h = record { times = 1; product = refl }
divides Page Dword h = absurd (omega (arith, h))
divides Page Block h = record { times = 16; product = refl }
divides Dword Byte h = absurd (omega (arith, h))
divides Dword Word h = absurd (omega (arith, h))
divides Dword Paragraph h = record { times = 4; product = refl }
divides Dword Page h = record { times = 64; product = refl }
divides Dword Dword h = record { times = 1; product = refl }
divides Dword Block h = record { times = 1024; product = refl }
divides Block Byte h = absurd (omega (arith, h))
divides Block Word h = absurd (omega (arith, h))
divides Block Paragraph h = absurd (omega (arith, h))
divides Block Page h = absurd (omega (arith, h))
divides Block Dword h = absurd (omega (arith, h))
divides Block Block h = record { times = 1; product = refl }

times-times : (n s t : ℕ) → IsMultiple s n → IsMultiple t s → IsMultiple t n
times-times n s t m k = record { times = m.times * k.times; product = m.product ∙ ap (λ x. m.times * x) k.product ∙ sym (mul_assoc m.times k.times t) }

-- The strictest of some alignments is one of them, or that of a byte.
strict : (ps : List Portion) → (x : Alignment) × (strictest ps ≡ bytes_aligned x)
strict [] = (Byte, refl)
strict (p ∷ ps) =
    let s = strict ps in
    elim (cases_Bool (nat_le (bytes_aligned p.alignment) (strictest ps))) [
      | inl t ↦ let low = leb-true (bytes_aligned p.alignment) (strictest ps) t in (s.0, let e : max (bytes_aligned p.alignment) (strictest ps) ≡ strictest ps = omega (arith, low) in e ∙ s.1)
      | inr f ↦ let high = leb-false (bytes_aligned p.alignment) (strictest ps) f in (p.alignment, let e : max (bytes_aligned p.alignment) (strictest ps) ≡ bytes_aligned p.alignment = omega (arith, high) in e)
    ]

-- What holds of each, and of each two.
abbrev pub Each : {A : Type 0} → (A → Type 0) → List A → Type 0
Each P [] = ⊤
Each P (x ∷ xs) = P x × Each P xs

pub each-at : {A : Type 0} (P : A → Type 0) (xs : List A) → Each P xs → (i : ℕ) (x : A) → slice_get xs i ≡ Some x → P x
each-at P [] e i x h = absurd (none-some x h)
each-at P (y ∷ ys) e zero x h = subst P (same_Some y x h) e.0
each-at P (y ∷ ys) e (suc i) x h = each-at P ys e.1 i x h

pub each-both : {A : Type 0} (P : A → Type 0) (xs ys : List A) → Each P xs → Each P ys → Each P (xs ++ ys)
each-both P [] ys e f = f
each-both P (x ∷ xs) ys e f = (e.0, each-both P xs ys e.1 f)

pub each-weaker : {A : Type 0} (P Q : A → Type 0) → ((x : A) → P x → Q x) → (xs : List A) → Each P xs → Each Q xs
each-weaker P Q w [] e = tt
each-weaker P Q w (x ∷ xs) e = (w x e.0, each-weaker P Q w xs e.1)

-- Two segments do not overlap if neither is absolute.
abbrev AreApart : Lying → Lying → Type 0
AreApart x y = IsRelocatable x → IsRelocatable y → LieApart x y

abbrev Pairs : List Lying → Type 0
Pairs [] = ⊤
Pairs (x ∷ xs) = Each (AreApart x) xs × Pairs xs

pairs-at : (xs : List Lying) → Pairs xs → (i j : ℕ) (x y : Lying) → i < j → slice_get xs i ≡ Some x → slice_get xs j ≡ Some y → AreApart x y
pairs-at [] e i j x y lt h k = absurd (none-some x h)
pairs-at (z ∷ zs) e i zero x y lt h k = absurd (omega (arith, lt))
pairs-at (z ∷ zs) e zero (suc j) x y lt h k = subst (λ w. AreApart w y) (same_Some z x h) (each-at (AreApart z) zs e.0 j y k)
pairs-at (z ∷ zs) e (suc i) (suc j) x y lt h k = pairs-at zs e.1 i j x y (omega (arith, lt)) h k

module _ (frames : Frames) where
  -- A segment is well placed from one address on and up to another.
  pub record LiesWell (low high : ℕ) (x : Lying) : Type 0 where
    pub relative : IsRelocatable x → LiesWithin frames low high x
    pub absolute : (number offset : ℕ) → x.0.segment.absolute ≡ Some (number, offset) → x.1 ≡ absolute_place number offset

  well-wider : (low low2 high high2 : ℕ) → low2 ≤ low → high ≤ high2 → (x : Lying) → LiesWell low high x → LiesWell low2 high2 x
  well-wider low low2 high high2 h k x w = record {
    relative = λ r. let l = w.relative r in record { multiple = l.multiple; from = omega (arith, h, l.from); end = omega (arith, k, l.end); below = l.below; within = l.within };
    absolute = w.absolute;
  }

  -- Segments are well placed and do not overlap, from one address on and up to another.
  pub record LieWell (low : ℕ) (l : Laid (List Lying)) : Type 0 where
    pub up : low ≤ l.free
    pub each : Each (LiesWell low l.free) l.what
    pub pairs : Pairs l.what

  after-one : (low mid high : ℕ) (x : Lying) → LiesWell low mid x → (ys : List Lying) → Each (LiesWell mid high) ys → Each (AreApart x) ys
  after-one low mid high x w [] e = tt
  after-one low mid high x w (y ∷ ys) e = (λ r s. let a = (w.relative r).end in let b = (e.0.relative s).from in inr (omega (arith, a, b)), after-one low mid high x w ys e.1)

  pairs-both : (low mid high : ℕ) (xs ys : List Lying) → Each (LiesWell low mid) xs → Pairs xs → Each (LiesWell mid high) ys → Pairs ys → Pairs (xs ++ ys)
  pairs-both low mid high [] ys e p f q = q
  pairs-both low mid high (x ∷ xs) ys e p f q = (each-both (AreApart x) xs ys p.0 (after-one low mid high x e.0 ys f), pairs-both low mid high xs ys e.1 p.1 f q)

  both-well : (low : ℕ) (k l : Laid (List Lying)) → LieWell low k → LieWell k.free l → LieWell low (laid (k.what ++ l.what) l.free)
  both-well low k l a b = record {
    up = omega (arith, a.up, b.up);
    each = each-both (LiesWell low l.free) k.what l.what (each-weaker (LiesWell low k.free) (LiesWell low l.free) (well-wider low low k.free l.free (omega arith) b.up) k.what a.each)
        (each-weaker (LiesWell k.free l.free) (LiesWell low l.free) (well-wider k.free low l.free l.free a.up (omega arith)) l.what b.each);
    pairs = pairs-both low k.free l.free k.what l.what a.each a.pairs b.each b.pairs;
  }

  none-well : (low : ℕ) (l : Laid (List Lying)) → Some (laid [] low) ≡ Some l → LieWell low l
  none-well low l h = subst (LieWell low) (same_Some (laid [] low) l h) (record { up = omega arith; each = tt; pairs = tt })

  -- What is laid after something else.
  after-well : (low : ℕ) (first : Option (Laid (List Lying))) (rest : ℕ → Option (Laid (List Lying))) (l : Laid (List Lying)) → and_then_after first rest ≡ Some l
      → ((k : Laid (List Lying)) → first ≡ Some k → LieWell low k) → ((n : ℕ) (k : Laid (List Lying)) → rest n ≡ Some k → LieWell n k) → LieWell low l
  after-well low first rest l h f g = option_and_then_some (λ k. and_then_more k.what (rest k.free)) first l h (λ k e d.
      map_some (λ (r : Laid (List Lying)). laid (k.what ++ r.what) r.free) (rest k.free) l d (λ r s t. subst (LieWell low) t (both-well low k r (f k e) (g k.free r s))))

  -- What is laid one by one.
  record IsOneWell (low : ℕ) (one : Laid Lying) : Type 0 where
    pub up : low ≤ one.free
    pub well : LiesWell low one.free one.what

  all-well : (lay : ℕ → Portion → Option (Laid Lying)) (Q : Portion → Type 0) → ((free : ℕ) (p : Portion) (one : Laid Lying) → Q p → lay free p ≡ Some one → IsOneWell free one)
      → (free : ℕ) (ps : List Portion) (l : Laid (List Lying)) → Each Q ps → all_laid lay free ps ≡ Some l → LieWell free l
  all-well lay Q w free [] l q h = none-well free l h
  all-well lay Q w free (p ∷ ps) l q h =
      let f = first-of lay free p ps l h in
      let one = w free p f.one q.0 f.one_is in
      let rest = all-well lay Q w f.one.free ps f.rest q.1 f.rest_is in
      let both = both-well free (laid (f.one.what ∷ []) f.one.free) f.rest (record { up = one.up; each = (one.well, tt); pairs = (tt, tt) }) rest in
      subst (LieWell free) (ap₂ (λ (xs : List Lying) (n : ℕ). laid xs n) f.what f.end) both

  -- One that is joined.
  joined-one : (frame : Frame) (free : ℕ) (p : Portion) (one : Laid Lying) → p.segment.absolute ≡ None → joined_in frames frame free p ≡ Some one → IsOneWell free one
  joined-one frame free p one r h = map_some (lying_at frame p) (address_of frames free p) one h (λ a e g.
      let w = address-from frames free p.segment.length p.alignment a e in
      subst (IsOneWell free) g (record {
        up = omega (arith, w.from);
        well = record {
          relative = λ s. record { multiple = w.multiple; from = w.from; end = omega arith; below = w.below; within = w.within };
          absolute = λ number offset s. absurd (none-some (number, offset) (sym r ∙ s));
        };
      }))

  joined-well : (free : ℕ) (ps : List Portion) (l : Laid (List Lying)) → Each (λ p. p.segment.absolute ≡ None) ps → joined_laid frames free ps ≡ Some l → LieWell free l
  joined-well free [] l q h = none-well free l h
  joined-well free (p ∷ ps) l q h = option_and_then_some (λ a. all_laid (joined_in frames (frame_at frames a)) free (p ∷ ps)) (address_of frames free p) l h (λ a e g.
      all-well (joined_in frames (frame_at frames a)) (λ p. p.segment.absolute ≡ None) (joined-one (frame_at frames a)) free (p ∷ ps) l q g)

  -- Those that are common.
  record IsCommon (p : Portion) : Type 0 where
    pub relative : p.segment.absolute ≡ None
    pub common : p.combination ≡ Common

  module _ (a free step room : ℕ) (place : Placed) (at : place.address ≡ a) (x : Alignment) (is : step ≡ bytes_aligned x) (w : IsFrom frames (bytes_aligned x) free room a) where
    common-each : (ps : List Portion) → Each IsCommon ps → strictest ps ≤ step → longest ps ≤ room → Each (LiesWell free (a + room)) (all_at ps place)
    common-each [] q s n = tt
    common-each (p ∷ ps) q s n =
        let laxer : bytes_aligned p.alignment ≤ bytes_aligned x = omega (arith, s, is) in (
          record {
            relative = λ r. record {
              multiple = times-times place.address (bytes_aligned x) (bytes_aligned p.alignment) (subst (IsMultiple (bytes_aligned x)) (sym at) w.multiple) (divides p.alignment x laxer);
              from = omega (arith, at, w.from);
              end = omega (arith, at, n);
              below = omega (arith, at, w.below);
              within = omega (arith, at, n, w.within);
            };
            absolute = λ number offset r. absurd (none-some (number, offset) (sym q.0.relative ∙ r));
          },
          common-each ps q.1 (omega (arith, s)) (omega (arith, n)),
        )

    common-other : (p : Portion) → IsCommon p → (ps : List Portion) → Each IsCommon ps → Each (AreApart (p, place)) (all_at ps place)
    common-other p c [] q = tt
    common-other p c (r ∷ ps) q = (λ s t. inl (record { first = c.common; second = q.0.common; place = refl }), common-other p c ps q.1)

    common-pairs : (ps : List Portion) → Each IsCommon ps → Pairs (all_at ps place)
    common-pairs [] q = tt
    common-pairs (p ∷ ps) q = (common-other p q.0 ps q.1, common-pairs ps q.1)

  common-well : (free : ℕ) (ps : List Portion) (l : Laid (List Lying)) → Each IsCommon ps → common_laid frames free ps ≡ Some l → LieWell free l
  common-well free [] l q h = none-well free l h
  common-well free (p ∷ ps) l q h = map_some (common_at frames (p ∷ ps)) (address_from frames (strictest (p ∷ ps)) free (longest (p ∷ ps))) l h (λ a e g.
      let x = strict (p ∷ ps) in
      let room = longest (p ∷ ps) in
      let w = address-from frames free room x.0 a (ap (λ n. address_from frames n free room) (sym x.1) ∙ e) in
      let place : Placed = record { address = a; frame = frame_at frames a } in
      subst (LieWell free) g (record {
        up = omega (arith, w.from);
        each = common-each a free (strictest (p ∷ ps)) room place refl x.0 x.1 w (p ∷ ps) q (omega arith) (omega arith);
        pairs = common-pairs a free (strictest (p ∷ ps)) room place refl x.0 x.1 w (p ∷ ps) q;
      }))

  -- One that is alone.
  alone-at : (free : ℕ) (p : Portion) (o : Option (ℕ × ℕ)) (one : Laid Placed) → p.segment.absolute ≡ o → segment_at frames (bytes_aligned p.alignment) free p.segment.length o ≡ Some one → IsOneWell free (lying_there p one)
  alone-at free p (Some place) one e h = subst (λ (k : Laid Placed). IsOneWell free (lying_there p k)) (same_Some _ one h) (record {
    up = omega arith;
    well = record {
      relative = λ r. absurd (none-some place (sym r ∙ e));
      absolute = λ number offset r. ap (λ (q : ℕ × ℕ). absolute_place q.0 q.1) (same_Some place (number, offset) (sym e ∙ r));
    };
  })
  alone-at free p None one e h = map_some _ (address_from frames (bytes_aligned p.alignment) free p.segment.length) one h (λ a d g.
      let w = address-from frames free p.segment.length p.alignment a d in
      subst (λ (k : Laid Placed). IsOneWell free (lying_there p k)) g (record {
        up = omega (arith, w.from);
        well = record {
          relative = λ r. record { multiple = w.multiple; from = w.from; end = omega arith; below = w.below; within = w.within };
          absolute = λ number offset r. absurd (none-some (number, offset) (sym e ∙ r));
        };
      }))

  alone-one : (free : ℕ) (p : Portion) (one : Laid Lying) → ⊤ → alone_laid frames free p ≡ Some one → IsOneWell free one
  alone-one free p one q h = map_some (lying_there p) (segment_laid frames free (p.segment, p.alignment)) one h (λ k e g. subst (IsOneWell free) g (alone-at free p p.segment.absolute k refl e))

  any-each : (ps : List Portion) → Each (λ p. ⊤) ps
  any-each [] = tt
  any-each (p ∷ ps) = (tt, any-each ps)

  -- A run, and all runs.
  relative-by : (c : Combination) → is_same_combination c Alone ≡ false → (o : Option (ℕ × ℕ)) (d : Combination) → is_same_combination c (lies_by o d) ≡ true → o ≡ None
  relative-by c n None d h = refl
  relative-by c n (Some place) d h = absurd (false≢true (sym n ∙ h))

  is-common : (o : Option (ℕ × ℕ)) (d : Combination) → is_same_combination Common (lies_by o d) ≡ true → d ≡ Common
  is-common None Common h = refl
  is-common None Joined h = absurd (false≢true h)
  is-common None Alone h = absurd (false≢true h)
  is-common (Some place) d h = absurd (false≢true h)

  each-filter : (P : Portion → Type 0) (t : Portion → Bool) → ((p : Portion) → t p ≡ true → P p) → (ps : List Portion) → Each P (filter t ps)
  each-filter P t w [] = tt
  each-filter P t w (p ∷ ps) = elim (cases_Bool (t p)) [
    | inl y ↦ subst (Each P) (sym (cond-true (t p) (p ∷ filter t ps) (filter t ps) y)) (w p y, each-filter P t w ps)
    | inr n ↦ subst (Each P) (sym (cond-false (t p) (p ∷ filter t ps) (filter t ps) n)) (each-filter P t w ps)
  ]

  pub run-well : (free : ℕ) (run : List Portion) (l : Laid (List Lying)) → run_laid frames free run ≡ Some l → LieWell free l
  run-well free run l h =
      after-well free (joined_laid frames free (combined_by Joined run)) _ l h
      (λ k e. joined-well free (combined_by Joined run) k (each-filter (λ p. p.segment.absolute ≡ None) (λ p. is_same_combination Joined (lies_by p.segment.absolute p.combination)) (λ p y. relative-by Joined refl p.segment.absolute p.combination y) run) e)
      (λ n k e. after-well n (common_laid frames n (combined_by Common run)) _ k e
      (λ j d. common-well n (combined_by Common run) j (each-filter IsCommon (λ p. is_same_combination Common (lies_by p.segment.absolute p.combination))
      (λ p y. record { relative = relative-by Common refl p.segment.absolute p.combination y; common = is-common p.segment.absolute p.combination y }) run) d)
      (λ m j d. all-well (alone_laid frames) (λ p. ⊤) alone-one m (combined_by Alone run) j (any-each (combined_by Alone run)) d))

  pub runs-well : (free : ℕ) (rs : List (List Portion)) (l : Laid (List Lying)) → runs_laid frames free rs ≡ Some l → LieWell free l
  runs-well free [] l h = none-well free l h
  runs-well free (r ∷ rs) l h = after-well free (run_laid frames free r) (λ after. runs_laid frames after rs) l h (λ k e. run-well free r k e) (λ n k e. runs-well n rs k e)

pub arranged-lie-apart : ArrangedLieApart
arranged-lie-apart o ms l h =
    let w = runs-well o.frames o.base (runs ms) l h in
    record {
      well = λ i x e r. (each-at (LiesWell o.frames o.base l.free) l.what w.each i x e).relative r;
      absolute = λ i x number offset e a. (each-at (LiesWell o.frames o.base l.free) l.what w.each i x e).absolute number offset a;
      apart = λ i j x y lt e f. pairs-at l.what w.pairs i j x y lt e f;
      ordered = places-in-order l.what (flat_map in_order (runs ms)) (those-in-runs o.frames o.base (runs ms) l h);
    }
