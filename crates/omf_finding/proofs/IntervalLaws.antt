-- The intervals of a pattern: the runs of its bytes, with their marks.
use Rattle.std.proofs.Common.{◌≡◌, ◌⊎◌, inl, inr, ℕ, zero, suc, ◌+◌, ◌<◌, ◌≤◌, List, [], ◌∷◌, ◌++◌, length, drop, Option, Some, None, refl, sym, ap, ap₂, subst, ◌∙◌, arith}
use Rattle.std.specs.Prelude.{Contains, IsSome, IsNone, slice_get}
use Rattle.std.proofs.lemmas.List.{length_push}
use Rattle.std.proofs.lemmas.List.Elements.{Contains-append_left, Contains-push, Contains-push_cases}
use Rattle.std.proofs.lemmas.Option.{slice_get_within, get_or_from_slice_get}
use Rattle.omf_image.specs.Inner.Joined.{run_end, runs_of}
use Rattle.omf_image.specs.Overlay.{byte_at, IsRun, AreRuns, IsRunAt, IsRunShown, AreBytesAt, AreBytesOf, AreBytesOver, spanned}
use Rattle.omf_image.specs.declared.run.Run.{Run}
use Rattle.omf_image.proofs.RunLaws.{AreApart, Covers, runs_cover, runs_unique, some_or_none}
use Rattle.omf_image.proofs.ShownLaws.{number_is, number_low, run_next, none_left}
use Rattle.omf_finding.proofs.AgreesLaws.{not-both}
use Rattle.omf_finding.specs.Inner.Shaping.{AreIntervals, IsInterval, IsMarked, IsWithin}
use Rattle.omf_finding.specs.Inner.Walking.{Marks, byte_in, byte_with}
use Rattle.omf_finding.specs.declared.patterning.Interval.{Interval}

-- ---- bytes at the same places have the same runs

module _ (f g : ℕ → Option ℕ) (to : (x : ℕ) → IsSome (f x) → IsSome (g x)) (from : (x : ℕ) → IsSome (g x) → IsSome (f x)) where
  run-moves : (run : Run) → IsRun f run → IsRun g run
  run-moves run h = record {
    nonempty = h.nonempty;
    covered = λ x a b. to x (h.covered x a b);
    after = some_or_none (g (run.first + run.len)) (λ s. not-both (f (run.first + run.len)) (from (run.first + run.len) s) h.after);
    before = λ x at. some_or_none (g x) (λ s. not-both (f x) (from x s) (h.before x at));
  }

same-run : (f g : ℕ → Option ℕ) → ((x : ℕ) → IsSome (f x) → IsSome (g x)) → ((x : ℕ) → IsSome (g x) → IsSome (f x)) → (k : ℕ) (r s : Option Run) → IsRunAt f k r → IsRunAt g k s → r ≡ s
same-run f g to from k r s hr hs =
    let moved : AreRuns f hs.0 = record {
      each = λ run c. run-moves g f from to run (hs.1.each run c);
      all = λ run h. hs.1.all run (run-moves f g to from run h);
      rising = hs.1.rising;
    } in
    hr.2 ∙ ap (λ (rs : List Run). slice_get rs k) (runs_unique f hr.0 hs.0 hr.1 moved) ∙ sym hs.2

run-of : (f : ℕ → Option ℕ) (k : ℕ) (r : Run) → IsRunAt f k (Some r) → IsRun f r
run-of f k r h =
    let e : slice_get h.0 k ≡ Some r = sym h.2 in
    h.1.each r (k, slice_get_within h.0 k r e, get_or_from_slice_get h.0 k r r e)

-- ---- one interval

module _ (p : Marks) (marked : IsMarked p) (segment k : ℕ) (i : Interval) where
  abbrev values : ℕ → Option ℕ
  values = byte_at p.values segment

  abbrev marks : ℕ → Option ℕ
  marks = byte_at p.marks segment

  abbrev span : Run
  span = spanned i.first i.values.now

  with-marks : (bytes : List ℕ) → Some i.marks.now ≡ Some bytes → AreBytesOver marks span bytes → AreBytesOver marks span i.marks.now
  with-marks bytes e h = let same : bytes ≡ i.marks.now = cc in subst (AreBytesOver marks span) same h

  pub interval-shown : IsRunShown values k (Some (i.first, i.values.now)) → AreBytesAt marks k (Some i.marks.now) → IsInterval (byte_in p segment) i
  interval-shown v m =
      let run : IsRun values span = run-of values k span v.0 in
      let one : m.0 ≡ Some span = sym (same-run values marks (marked.has segment) (marked.only segment) k (Some span) m.0 v.0 m.1) in
      let shown : AreBytesOf marks (Some span) (Some i.marks.now) = subst (λ (r : Option Run). AreBytesOf marks r (Some i.marks.now)) one m.2 in
      let over : AreBytesOver marks span i.marks.now = with-marks shown.0 shown.1 shown.2 in
      record {
        some = run.nonempty;
        same = over.long;
        within = v.2;
        each = λ n low. ap₂ byte_with (v.1.each n low) (over.each n low);
        after = after-none (values (i.first + length i.values.now)) (marks (i.first + length i.values.now)) run.after;
      }
    where
      after-none : (value mark : Option ℕ) → IsNone value → IsNone (byte_with value mark)
      after-none None mark h = refl
      after-none (Some b) mark h = absurd cc

-- a run of the bytes is one of the marks
pub interval-missing : (p : Marks) → IsMarked p → (segment k first : ℕ) (bytes : List ℕ) → IsRunShown (byte_at p.values segment) k (Some (first, bytes)) → AreBytesAt (byte_at p.marks segment) k None → ⊥
interval-missing p marked segment k first bytes v m =
    let one : m.0 ≡ Some (spanned first bytes) = sym (same-run (byte_at p.values segment) (byte_at p.marks segment) (marked.has segment) (marked.only segment) k (Some (spanned first bytes)) m.0 v.0 m.1) in
    let shown : AreBytesOf (byte_at p.marks segment) (Some (spanned first bytes)) None = subst (λ (r : Option Run). AreBytesOf (byte_at p.marks segment) r None) one m.2 in
    none-some shown.0 shown.1
  where
    none-some : (xs : List ℕ) → None ≡ Some xs → ⊥
    none-some xs e = cc

-- ---- all intervals

with-some : (value mark : Option ℕ) → IsSome (byte_with value mark) → IsSome value
with-some None mark h = absurd cc
with-some (Some b) mark h = refl

abbrev pub IsShownIn : List Interval → ℕ → Type 0
IsShownIn is x = (i : Interval) × Contains is i × IsWithin i x

-- of runs with gaps, each ends before the next ones
apart-order : (low : ℕ) (rs : List Run) → AreApart low rs → (k : ℕ) (s : Run) → slice_get rs k ≡ Some s → low ≤ s.first
apart-order low [] h k s e = absurd cc
apart-order low (r ∷ rs) h zero s e = let same : r ≡ s = cc in let one : r.first ≡ s.first = ap (λ (t : Run). t.first) same in let from = h.0 in omega (arith, one, from)
apart-order low (r ∷ rs) h (suc k) s e = let later = apart-order (suc (run_end r)) rs h.2 k s e in let from = h.0 in omega (arith, later, from)

runs-order : (low : ℕ) (rs : List Run) → AreApart low rs → (j k : ℕ) (r s : Run) → j < k → slice_get rs j ≡ Some r → slice_get rs k ≡ Some s → run_end r ≤ s.first
runs-order low [] h j k r s less e f = absurd cc
runs-order low (t ∷ rs) h zero zero r s less e f = absurd (omega (arith, less))
runs-order low (t ∷ rs) h zero (suc k) r s less e f =
    let same : t ≡ r = cc in
    let one : run_end t ≡ run_end r = ap (λ (u : Run). run_end u) same in
    let later = apart-order (suc (run_end t)) rs h.2 k s f in
    omega (arith, one, later)
runs-order low (t ∷ rs) h (suc j) zero r s less e f = absurd (omega (arith, less))
runs-order low (t ∷ rs) h (suc j) (suc k) r s less e f = runs-order (suc (run_end t)) rs h.2 j k r s (omega (arith, less)) e f

push-get : (is : List Interval) (i : Interval) (j : ℕ) (a : Interval) → slice_get (is ++ i ∷ []) j ≡ Some a → (slice_get is j ≡ Some a) ⊎ ((j ≡ length is) × (i ≡ a))
push-get [] i zero a e = inr (refl, let same : i ≡ a = cc in same)
push-get [] i (suc j) a e = absurd cc
push-get (b ∷ is) i zero a e = inl e
push-get (b ∷ is) i (suc j) a e = elim (push-get is i j a e) [ inl f ↦ inl f | inr f ↦ inr (ap suc f.0, f.1) ]

-- The first k intervals, and the runs that are left.
pub record AreFirst (p : Marks) (segment k : ℕ) (is : List Interval) : Type 0 where
  pub within : k ≤ length (runs_of p.values segment)
  pub long : length is ≡ k
  pub runs : (j : ℕ) (a : Interval) → slice_get is j ≡ Some a → slice_get (runs_of p.values segment) j ≡ Some (spanned a.first a.values.now)
  pub each : (i : Interval) → Contains is i → IsInterval (byte_in p segment) i
  pub every : (x : ℕ) → IsSome (byte_at p.values segment x) → IsShownIn is x ⊎ Covers (drop k (runs_of p.values segment)) x

module _ (p : Marks) (segment : ℕ) where
  abbrev runs : List Run
  runs = runs_of p.values segment

  pub intervals-first : AreFirst p segment 0 []
  intervals-first = record {
    within = omega arith;
    long = refl;
    runs = λ j a e. absurd cc;
    each = λ i c. absurd (omega (arith, c.1));
    every = λ x s. inr ((runs_cover segment p.values).covers x s);
  }

  module _ (k : ℕ) (is new : List Interval) (i : Interval) (shown : IsRunShown (byte_at p.values segment) k (Some (i.first, i.values.now))) (one : IsInterval (byte_in p segment) i) (e : new ≡ is ++ i ∷ []) where
    pub number-low : k < length runs
    number-low = number_low p.values segment k i.first i.values.now shown

    each-next : ((j : Interval) → Contains is j → IsInterval (byte_in p segment) j) → (j : Interval) → Contains (is ++ i ∷ []) j → IsInterval (byte_in p segment) j
    each-next h j c = elim (Contains-push_cases is i j c) [ inl d ↦ h j d | inr q ↦ subst (IsInterval (byte_in p segment)) q one ]

    shown-left : (x : ℕ) → IsShownIn is x → IsShownIn (is ++ i ∷ []) x
    shown-left x s = (s.0, Contains-append_left is (i ∷ []) s.0 s.1, s.2)

    covered-next : (x : ℕ) → Covers (spanned i.first i.values.now ∷ drop (k + 1) runs) x → IsShownIn (is ++ i ∷ []) x ⊎ Covers (drop (k + 1) runs) x
    covered-next x (inl h) = inl (i, Contains-push is i, h)
    covered-next x (inr h) = inr h

    every-next : (x : ℕ) → IsShownIn is x ⊎ Covers (drop k runs) x → IsShownIn (is ++ i ∷ []) x ⊎ Covers (drop (k + 1) runs) x
    every-next x (inl s) = inl (shown-left x s)
    every-next x (inr c) = covered-next x (subst (λ (rs : List Run). Covers rs x) (run_next p.values segment k i.first i.values.now shown) c)

    runs-next : length is ≡ k → ((j : ℕ) (a : Interval) → slice_get is j ≡ Some a → slice_get runs j ≡ Some (spanned a.first a.values.now)) → (j : ℕ) (a : Interval) → slice_get (is ++ i ∷ []) j ≡ Some a → slice_get runs j ≡ Some (spanned a.first a.values.now)
    runs-next long h j a f = elim (push-get is i j a f) [
      | inl g ↦ h j a g
      | inr g ↦
          let same : k ≡ j = sym long ∙ sym g.0 in
          subst (λ (n : ℕ). slice_get runs n ≡ Some (spanned a.first a.values.now)) same
          (subst (λ (b : Interval). slice_get runs k ≡ Some (spanned b.first b.values.now)) g.1 (number_is p.values segment k i.first i.values.now shown))
    ]

    pub intervals-next : AreFirst p segment k is → AreFirst p segment (k + 1) new
    intervals-next h = subst (AreFirst p segment (k + 1)) (sym e) (record {
      within = omega (arith, number-low);
      long = length_push is i ∙ (let old = h.long in let one : length is + 1 ≡ k + 1 = omega (arith, old) in one);
      runs = runs-next h.long h.runs;
      each = each-next h.each;
      every = λ x s. every-next x (h.every x s);
    })

  pub intervals-last : (k : ℕ) (is : List Interval) → IsRunShown (byte_at p.values segment) k None → AreFirst p segment k is → AreIntervals (byte_in p segment) is
  intervals-last k is none h = record {
    ordered = λ j n a b less e f. runs-order 0 runs (runs_cover segment p.values).apart j n (spanned a.first a.values.now) (spanned b.first b.values.now) less (h.runs j a e) (h.runs n b f);
    each = h.each;
    every = λ x s. done x (h.every x (with-some (byte_at p.values segment x) (byte_at p.marks segment x) s));
  }
    where
      done : (x : ℕ) → IsShownIn is x ⊎ Covers (drop k runs) x → IsShownIn is x
      done x (inl s) = s
      done x (inr c) = absurd (subst (λ (rs : List Run). Covers rs x) (none_left p.values segment k none) c)
