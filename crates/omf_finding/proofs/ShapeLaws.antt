-- The shapes of a module's segments.
use Rattle.std.proofs.Common.{◌≡◌, ◌⊎◌, inl, inr, ℕ, zero, suc, ◌+◌, ◌-◌, ◌<◌, ◌≤◌, Bool, true, false, List, [], ◌∷◌, ◌++◌, length, filter, not, Option, Some, None, refl, sym, ap, ap₂, subst, ◌∙◌, if◌then◌else◌, arith}
use Rattle.std.specs.Prelude.{All, IfOk, IsSome, Result, Ok, Err, get_or, slice_get}
use Rattle.std.proofs.lemmas.Bool.{cases_lt}
use Rattle.std.proofs.lemmas.List.{length-append}
use Rattle.std.proofs.lemmas.Option.{none-some, slice_get_within}
use Rattle.omf_finding.specs.Agrees.{HasFour}
use Rattle.omf_finding.specs.Sure.{closed_before, is_fresh, is_value}
use Rattle.omf_finding.specs.Inner.Measuring.{IsMeasured}
use Rattle.omf_finding.specs.declared.closed.ClosedByte.{ClosedByte}
use Rattle.omf_finding.proofs.ListLaws.{at-end, at-left}
use Rattle.std.proofs.lemmas.Bool.Decides.{leb_tells}
use Rattle.std.proofs.lemmas.List.Elements.{Contains-append_left, Contains-push, Contains-push_cases, Contains-get_or}
use Rattle.omf_finding.specs.Finding.{IsCommon, IsCut, IsFull}
use Rattle.omf_finding.specs.Fours.{four_closed}
use Rattle.omf_finding.specs.Run.{closed_byte}
use Rattle.omf_finding.specs.Inner.Shaping.{AreIntervals, ArePlaces, AreShapes, HasNone, IsShape, IsWhole}
use Rattle.omf_finding.specs.declared.patterning.Interval.{Interval}
use Rattle.omf_finding.specs.declared.patterning.PatternByte.{PatternByte}
use Rattle.omf_finding.specs.declared.shapes.Shape.{Shape}
use Rattle.omf_finding.proofs.AgreesLaws.{agrees-as, four-as}
use Rattle.omf_finding.proofs.FourLaws.{four-same}
use Rattle.omf_finding.proofs.RareLaws.{none-sought}

pub intervals-whole : (byte : ℕ → Option PatternByte) (is : List Interval) → AreIntervals byte is → All IsWhole is
intervals-whole byte is are k d low = let one = are.each (get_or is k d) (Contains-get_or is k d low) in (one.same, one.within)

module _ (byte : ℕ → Option PatternByte) (program : List ℕ) (base most : ℕ) where
  no-places : ArePlaces byte program base [] true
  no-places = record { rising = λ k low. absurd (omega (arith, low)); agree = λ a c. absurd (omega (arith, c.1)); all = λ e. absurd (let w : true ≡ false = e in cc) }

  -- a segment that is searched for
  pub shape-searched : (s : Shape) (places : List ℕ) (more : Bool) → s.is_searched ≡ true → s.places.items ≡ places → s.more ≡ more → ArePlaces byte program base places more → (more ≡ true → IsCut byte program base most places)
      → HasFour byte → IsMeasured byte s → IsShape byte program base most s
  shape-searched s places more e p q h cut four measured = record {
    places = subst (λ (ps : List ℕ). ArePlaces byte program base ps s.more) (sym p) (subst (ArePlaces byte program base places) (sym q) h);
    sought = λ f. e;
    found = λ f. four;
    measured = measured;
    others = λ f. absurd (let w : true ≡ false = sym e ∙ f in cc);
    cut = λ f m. subst (λ (ps : List ℕ). IsCut byte program base most ps) (sym p) (cut (sym q ∙ m));
  }

  -- one that is not
  pub shape-few : (is : List Interval) → AreIntervals byte is → All HasNone is → (s : Shape) → s.is_searched ≡ false → s.places.items ≡ [] → s.more ≡ true → IsMeasured byte s → IsShape byte program base most s
  shape-few is are none s few p q measured = record {
    places = subst (λ (ps : List ℕ). ArePlaces byte program base ps s.more) (sym p) (subst (ArePlaces byte program base []) (sym q) no-places);
    sought = λ four. absurd (none-sought byte is are none four);
    found = λ f. absurd (let w : true ≡ false = sym f ∙ few in cc);
    measured = measured;
    others = λ f. q;
    cut = λ f. absurd (let w : true ≡ false = sym f ∙ few in cc);
  }

module _ (f g : ℕ → Option PatternByte) (same : (x : ℕ) → f x ≡ g x) where
  closed-as : (x : ℕ) → closed_byte (f x) ≡ closed_byte (g x)
  closed-as x = ap closed_byte (same x)

  pub fours-as : (x : ℕ) → four_closed f x ≡ four_closed g x
  fours-as x =
      four-same (closed_byte (f x)) (closed_byte (f (x + 1))) (closed_byte (f (x + 2))) (closed_byte (f (x + 3))) (closed_byte (g x)) (closed_byte (g (x + 1))) (closed_byte (g (x + 2))) (closed_byte (g (x + 3))) (closed-as x) (closed-as (x + 1))
      (closed-as (x + 2)) (closed-as (x + 3))

  full-as : (program : List ℕ) (base most x end : ℕ) (places : List ℕ) → IsFull f program base most x end places → IsFull g program base most x end places
  full-as program base most x end places h = record { address = h.address; agrees = agrees-as f g same program base h.address h.agrees; place = h.place; full = h.full }

  cause-as : (program : List ℕ) (base most x key end : ℕ) (places : List ℕ) → IsFull f program base most x end places ⊎ IsCommon program key end → IsFull g program base most x end places ⊎ IsCommon program key end
  cause-as program base most x key end places (inl h) = inl (full-as program base most x end places h)
  cause-as program base most x key end places (inr h) = inr h

  pub cut-as : (program : List ℕ) (base most : ℕ) (places : List ℕ) → IsCut f program base most places → IsCut g program base most places
  cut-as program base most places h = record {
    x = h.x;
    key = h.key;
    end = h.end;
    closed = sym (fours-as h.x) ∙ h.closed;
    listed = λ fits a ag. h.listed fits a (agrees-as g f (λ x. sym (same x)) program base a ag);
    cause = cause-as program base most h.x h.key h.end places h.cause;
  }

  fresh-as : (cs : List ClosedByte) → filter (is_fresh f) cs ≡ filter (is_fresh g) cs
  fresh-as [] = refl
  fresh-as (c ∷ cs) = ap₂ (λ (b : Bool) (ds : List ClosedByte). if b then c ∷ ds else ds) (ap (λ (o : Option ℕ). not (is_value o c.value)) (before-as c.offset)) (fresh-as cs)
    where
      before-as : (x : ℕ) → closed_before f x ≡ closed_before g x
      before-as zero = refl
      before-as (suc x) = closed-as x

  measured-as : (s : Shape) → IsMeasured f s → IsMeasured g s
  measured-as s h = record {
    bytes = h.bytes;
    are = record {
      each = λ c k. sym (closed-as c.offset) ∙ h.are.each c k;
      every = λ x b e. h.are.every x b (closed-as x ∙ e);
      rising = h.are.rising;
    };
    count = h.count;
    vary = λ one. h.vary one ∙ ap length (fresh-as h.bytes);
    extent = record {
      some = λ low. let w = h.extent.some low in (w.0, subst IsSome (same s.first) w.1, subst IsSome (same (s.end - 1)) w.2);
      none = λ x k. h.extent.none x (subst IsSome (sym (same x)) k);
    };
  }

  shape-as : (program : List ℕ) (base most : ℕ) (s : Shape) → IsShape f program base most s → IsShape g program base most s
  shape-as program base most s h = record {
    places = record {
      rising = h.places.rising;
      agree = λ a c. agrees-as f g same program base a (h.places.agree a c);
      all = λ e fits a ag. h.places.all e fits a (agrees-as g f (λ x. sym (same x)) program base a ag);
    };
    sought = λ four. h.sought (four-as g f (λ x. sym (same x)) four);
    found = λ e. four-as f g same (h.found e);
    measured = measured-as s h.measured;
    others = h.others;
    cut = λ searched more. cut-as program base most s.places.items (h.cut searched more);
  }

pub shapes-as : (f g : ℕ → ℕ → Option PatternByte) → ((segment x : ℕ) → f segment x ≡ g segment x) → (program : List ℕ) (base most n : ℕ) (ss : List Shape) → AreShapes f program base most n ss → AreShapes g program base most n ss
shapes-as f g same program base most n ss h = record {
  each = λ s c. shape-as (f s.segment) (g s.segment) (same s.segment) program base most s (h.each s c);
  every = h.every;
  numbered = h.numbered;
}

module _ (byte : ℕ → ℕ → Option PatternByte) (program : List ℕ) (base most : ℕ) where
  pub shapes-first : AreShapes byte program base most 0 []
  shapes-first = record { each = λ s c. absurd (omega (arith, c.1)); every = λ segment one low. absurd (omega (arith, one, low)); numbered = λ k s e. absurd (none-some s e) }

  pub shapes-last : (n count : ℕ) (ss : List Shape) → count ≤ n → AreShapes byte program base most n ss → AreShapes byte program base most count ss
  shapes-last n count ss low h = record { each = h.each; every = λ segment one high. h.every segment one (omega (arith, high, low)); numbered = h.numbered }

  pub shapes-next : (n : ℕ) (ss new : List Shape) (s : Shape) → IsShape (byte s.segment) program base most s → s.segment ≡ n + 1 → length ss ≡ n → new ≡ ss ++ s ∷ [] → AreShapes byte program base most n ss → AreShapes byte program base most (n + 1) new
  shapes-next n ss new s one is long e h = subst (AreShapes byte program base most (n + 1)) (sym e) (record {
    each = λ t c. elim (Contains-push_cases ss s t c) [
      | inl d ↦ h.each t d
      | inr q ↦ subst (λ (u : Shape). IsShape (byte u.segment) program base most u) q one
    ];
    every = λ segment low high. elim (leb_tells segment n) [
      | inl t ↦ let got = h.every segment low t.1 in (got.0, Contains-append_left ss (s ∷ []) got.0 got.1, got.2)
      | inr t ↦ let same : s.segment ≡ segment = omega (arith, is, t.1, high) in (s, Contains-push ss s, same)
    ];
    numbered = λ k t f. elim (cases_lt k (length ss)) [
      | inl l ↦ h.numbered k t (sym (at-left ss (s ∷ []) k l) ∙ f)
      | inr l ↦
          let within = slice_get_within (ss ++ s ∷ []) k t f in
          let size = length-append ss (s ∷ []) in
          let end : length ss ≡ k = omega (arith, l, within, size) in
          let both : Some s ≡ Some t = sym (at-end ss s) ∙ ap (slice_get (ss ++ s ∷ [])) end ∙ f in
          let same : s ≡ t = cc in
          let numbers = ap (λ (u : Shape). u.segment) same in
          omega (arith, numbers, is, long, end)
    ];
  })

-- a result whose value has P has what follows
pub if-ok : {A E : Type 0} (P Q : A → Type 0) → ((v : A) → P v → Q v) → (r : Result A E) → IfOk r P → IfOk r Q
if-ok P Q f (Ok v) h = f v h
if-ok P Q f (Err e) h = h
