-- Modules that a chain of references joins to one that is sure by itself.
use Rattle.std.proofs.Common.{◌≡◌, ◌⊎◌, inl, inr, ℕ, zero, suc, ◌+◌, ◌<◌, ◌≤◌, Bool, true, false, List, [], ◌∷◌, ◌++◌, length, set, take, drop, refl, sym, ap, subst, ◌∙◌, arith}
use Rattle.std.specs.Prelude.{Option, Some, None, option_map, slice_get, Contains, replicate, ◌||◌}
use Rattle.std.specs.Box.{box_value}
use Rattle.std.specs.Global.{Box}
use Rattle.std.specs.List.{AllZip, list_any}
use Rattle.std.proofs.lemmas.Bool.{cases_lt}
use Rattle.std.proofs.lemmas.List.{length-append, length-set}
use Rattle.std.proofs.lemmas.Option.{none-some, same_Some, slice_get_past}
use Rattle.omf_frame.specs.Framing.{Raw, raw_bytes}
use Rattle.omf_records.specs.Inner.Reading.{typed}
use Rattle.omf_records.specs.Values.{Rec}
use Rattle.omf_check.specs.Listed.{placed_from}
use Rattle.omf_check.specs.WellFormed.{recs}
use Rattle.omf_check.specs.Module.{Module, recs_of}
use Rattle.omf_placement.specs.declared.frame.Placed.{Placed}
use Rattle.omf_finding.specs.Chain.{AreChained, Draft, EndsChain, enough, IsAlone, IsChained, IsDraft, IsDraftOf, IsSure, Stands, draft_at, draft_in, found_at, found_in, found_with, present_at}
use Rattle.omf_finding.specs.Finding.{IsHeld}
use Rattle.omf_finding.specs.Inner.Chaining.{AreJoined, RefersAt, found_by, has_joined, kept}
use Rattle.omf_finding.specs.Inner.Shaping.{IsPatternOf, IsShapeOf, bytes_of}
use Rattle.omf_finding.specs.Inner.Walking.{Marks, byte_in}
use Rattle.omf_finding.specs.Near.{AreClosed}
use Rattle.omf_finding.specs.Run.{closed_byte}
use Rattle.omf_image.proofs.RunLaws.{contains_first, contains_none}
use Rattle.omf_finding.proofs.ListLaws.{at-end, at-left}
use Rattle.omf_finding.specs.declared.closed.ClosedByte.{ClosedByte}
use Rattle.omf_finding.specs.declared.findings.Found.{Found}
use Rattle.omf_finding.specs.declared.findings.Verdict.{Verdict}
use Rattle.omf_finding.specs.declared.program.Program.{Program}
use Rattle.omf_finding.specs.declared.shapes.Shape.{Shape}

-- ---- marks

set-cases : (bs : List Bool) (n k : ℕ) → has_joined (set bs n true) k ≡ true → (n ≡ k) ⊎ (has_joined bs k ≡ true)
set-cases [] n k h = inr h
set-cases (b ∷ bs) zero zero h = inl refl
set-cases (b ∷ bs) zero (suc k) h = inr h
set-cases (b ∷ bs) (suc n) zero h = inr h
set-cases (b ∷ bs) (suc n) (suc k) h = elim (set-cases bs n k h) [
  | inl e ↦ inl (ap (λ (j : ℕ). suc j) e)
  | inr e ↦ inr e
]

pub set-kept : (bs : List Bool) (n k : ℕ) → has_joined bs k ≡ true → has_joined (set bs n true) k ≡ true
set-kept [] n k h = h
set-kept (b ∷ bs) zero zero h = refl
set-kept (b ∷ bs) zero (suc k) h = h
set-kept (b ∷ bs) (suc n) zero h = h
set-kept (b ∷ bs) (suc n) (suc k) h = set-kept bs n k h

set-here : (bs : List Bool) (n : ℕ) → n < length bs → has_joined (set bs n true) n ≡ true
set-here [] n h = absurd (omega (arith, h))
set-here (b ∷ bs) zero h = refl
set-here (b ∷ bs) (suc n) h = set-here bs n (omega (arith, h))

none-joined : (n k : ℕ) → has_joined (replicate n false) k ≡ true → ⊥
none-joined zero k h = cc
none-joined (suc n) zero h = cc
none-joined (suc n) (suc k) h = none-joined n k h

pub kept-parts : (d : Option Found) (b : Bool) (f : Found) → kept d b ≡ Some f → (b ≡ true) × (d ≡ Some f)
kept-parts d true f e = (refl, e)
kept-parts d false f e = absurd (none-some f e)

pub kept-both : (d : Option Found) (b : Bool) (f : Found) → b ≡ true → d ≡ Some f → kept d b ≡ Some f
kept-both d b f t e = ap (kept d) t ∙ e

pub kept-found : (d : Draft) (b : Bool) → option_map box_value (kept d b) ≡ kept (option_map box_value d) b
kept-found d true = refl
kept-found d false = refl

-- ---- chains

module _ (program : Program) (n : ℕ) (ms : List Module) where
  chain-grows : (at to : ℕ → Option Found) → ((i : ℕ) (f : Found) → at i ≡ Some f → to i ≡ Some f) → (k i : ℕ) → EndsChain program n ms at k i → EndsChain program n ms to k i
  chain-grows at to h zero i c = (c.0, c.1, record { module_is = c.2.module_is; found_is = h i c.1 c.2.found_is }, c.3)
  chain-grows at to h (suc k) i c =
      (c.0, c.1, c.2, c.3, c.4, chain-grows at to h k c.0 c.5, record { module_is = c.6.module_is; found_is = h c.0 c.2 c.6.found_is }, record { module_is = c.7.module_is; found_is = h i c.4 c.7.found_is }, c.8)

  pub chained-grows : (at to : ℕ → Option Found) → ((i : ℕ) (f : Found) → at i ≡ Some f → to i ≡ Some f) → (i : ℕ) → IsChained program n ms at i → IsChained program n ms to i
  chained-grows at to h i c = (c.0, chain-grows at to h c.0 i c.1)

  module _ (drafts : List Draft) where
    pub found-grows : (marks : List Bool) (j i : ℕ) (f : Found) → found_by drafts marks i ≡ Some f → found_by drafts (set marks j true) i ≡ Some f
    found-grows marks j i f e =
        let both = kept-parts (draft_at drafts i) (has_joined marks i) f e in
        kept-both (draft_at drafts i) (has_joined (set marks j true) i) f (set-kept marks j i both.0) both.1

    pub joined-none : (count : ℕ) (marks : List Bool) → marks ≡ replicate count false → AreJoined program n ms drafts marks
    joined-none count marks e i f h =
        let both = kept-parts (draft_at drafts i) (has_joined marks i) f h in
        absurd (none-joined count i (ap (λ bs. has_joined bs i) (sym e) ∙ both.0))

    -- One more, for a chain.
    joined-one : (marks after : List Bool) (j : ℕ) → after ≡ set marks j true → IsChained program n ms (found_by drafts (set marks j true)) j → AreJoined program n ms drafts marks → AreJoined program n ms drafts after
    joined-one marks after j e c h = subst (AreJoined program n ms drafts) (sym e) each
      where
        each : AreJoined program n ms drafts (set marks j true)
        each i f g =
            let both = kept-parts (draft_at drafts i) (has_joined (set marks j true) i) f g in
            elim (set-cases marks j i both.0) [
              | inl s ↦ subst (IsChained program n ms (found_by drafts (set marks j true))) s c
              | inr t ↦ chained-grows (found_by drafts marks) (found_by drafts (set marks j true)) (found-grows marks j) i (h i f (kept-both (draft_at drafts i) (has_joined marks i) f t both.1))
            ]

    pub joined-sure : (marks after : List Bool) (j : ℕ) (m : Module) (f : Found) → after ≡ set marks j true → j < length marks → slice_get ms j ≡ Some m → draft_at drafts j ≡ Some f → IsSure program n m f
        → AreJoined program n ms drafts marks → AreJoined program n ms drafts after
    joined-sure marks after j m f e low is draft sure h =
        joined-one marks after j e
        (0, (m, f, record { module_is = is; found_is = kept-both (draft_at drafts j) (has_joined (set marks j true) j) f (set-here marks j low) draft }, sure)) h

    pub joined-more : (marks after : List Bool) (i j : ℕ) → after ≡ set marks j true → j < length marks → has_joined marks i ≡ true → RefersAt ms drafts i j
        → AreJoined program n ms drafts marks → AreJoined program n ms drafts after
    joined-more marks after i j e low marked r h = joined-one marks after j e (suc before.0, (i, r.m, r.f, r.other, r.g, before.1, there, here, r.refers)) h
      where
        to : ℕ → Option Found
        to = found_by drafts (set marks j true)

        before : IsChained program n ms to i
        before = chained-grows (found_by drafts marks) to (found-grows marks j) i (h i r.f (kept-both (draft_at drafts i) (has_joined marks i) r.f marked r.found_is))

        there : Stands ms to i r.m r.f
        there = record { module_is = r.module_is; found_is = kept-both (draft_at drafts i) (has_joined (set marks j true) i) r.f (set-kept marks j i marked) r.found_is }

        here : Stands ms to j r.other r.g
        here = record { module_is = r.other_is; found_is = kept-both (draft_at drafts j) (has_joined (set marks j true) j) r.g (set-here marks j low) r.there_is }

    pub chained-verdicts : (marks : List Bool) (vs : List Verdict) → ((i : ℕ) → found_at vs i ≡ found_by drafts marks i) → AreJoined program n ms drafts marks → AreChained program n ms vs
    chained-verdicts marks vs same h i f e =
        chained-grows (found_by drafts marks) (found_at vs) (λ k g d. same k ∙ d) i (h i f (sym (same i) ∙ e))

-- ---- sure by its bytes

pub alone-shape : (program : Program) (most n : ℕ) (m : Module) (s : Shape) (f : Found) (place : Placed) (address : ℕ) → s.places.items ≡ address ∷ [] → s.more ≡ false
    → present_at f s.segment ≡ Some place → place.address ≡ address → enough n (recs_of m.bytes) s.segment ≤ s.closed → IsShapeOf program most m s → IsAlone program n m f
alone-shape program most n m s f pl address one all at same many shape = record {
  segment = s.segment;
  place = pl;
  present = at;
  bytes = shape.measured.bytes;
  closed = shape.measured.are;
  many = let count = shape.measured.count in omega (arith, many, count);
  there = shape.places.agree pl.address (subst (λ xs. Contains xs pl.address) (sym one) (subst (λ (a : ℕ). Contains (a ∷ []) pl.address) same (0, omega arith, refl)));
  only = λ inside other h. only-one other (subst (λ xs. Contains xs other) one (shape.places.all all inside other h));
}
  where
    only-one : (other : ℕ) → Contains (address ∷ []) other → other ≡ pl.address
    only-one other c = elim (contains_first other address [] c) [
      | inl e ↦ e ∙ sym same
      | inr d ↦ absurd (contains_none other d)
    ]

-- ---- verdicts, one after another

pub drop-first : {A : Type 0} (xs ys : List A) (n : ℕ) (y : A) → drop n xs ≡ y ∷ ys → slice_get xs n ≡ Some y
drop-first [] ys zero y e = absurd cc
drop-first [] ys (suc n) y e = absurd cc
drop-first (x ∷ xs) ys zero y e = cc
drop-first (x ∷ xs) ys (suc n) y e = drop-first xs ys n y e

pub drop-rest : {A : Type 0} (xs ys : List A) (n : ℕ) (y : A) → drop n xs ≡ y ∷ ys → drop (n + 1) xs ≡ ys
drop-rest [] ys zero y e = absurd cc
drop-rest [] ys (suc n) y e = absurd cc
drop-rest (x ∷ xs) ys zero y e = cc
drop-rest (x ∷ xs) ys (suc n) y e =
    let same : suc n + 1 ≡ suc (n + 1) = omega arith in
    ap (λ (k : ℕ). drop k (x ∷ xs)) same ∙ drop-rest xs ys n y e

-- The first n verdicts have the placements of those drafts that have joined.
pub record AreSo (drafts : List Draft) (marks : List Bool) (vs : List Verdict) (n : ℕ) : Type 0 where
  pub count : length vs ≡ n
  pub each : (i : ℕ) → i < n → found_at vs i ≡ found_by drafts marks i

pub so-next : (drafts left : List Draft) (marks : List Bool) (vs ws : List Verdict) (n : ℕ) (v : Verdict) (d : Draft) → drop n drafts ≡ d ∷ left → found_in v ≡ option_map box_value (kept d (has_joined marks n))
    → ws ≡ vs ++ v ∷ [] → AreSo drafts marks vs n → AreSo drafts marks ws (n + 1)
so-next drafts left marks vs ws n v d e f g h = subst (λ us. AreSo drafts marks us (n + 1)) (sym g) (record { count = longer; each = each })
  where
    longer : length (vs ++ v ∷ []) ≡ n + 1
    longer = let l : length (vs ++ v ∷ []) ≡ length vs + 1 = length-append vs (v ∷ []) in let c = h.count in omega (arith, l, c)

    here : found_at (vs ++ v ∷ []) n ≡ found_by drafts marks n
    here =
        let at : slice_get (vs ++ v ∷ []) n ≡ Some v = subst (λ k. slice_get (vs ++ v ∷ []) k ≡ Some v) h.count (at-end vs v) in
        ap found_with at ∙ f ∙ kept-found d (has_joined marks n) ∙ ap (λ o. kept o (has_joined marks n)) (sym (ap draft_in (drop-first drafts left n d e)))

    each : (i : ℕ) → i < n + 1 → found_at (vs ++ v ∷ []) i ≡ found_by drafts marks i
    each i low = elim (cases_lt i n) [
      | inl l ↦ let c = h.count in ap found_with (at-left vs (v ∷ []) i (omega (arith, l, c))) ∙ h.each i l
      | inr l ↦ let same : n ≡ i = omega (arith, l, low) in subst (λ k. found_at (vs ++ v ∷ []) k ≡ found_by drafts marks k) same here
    ]

pub kept-none : (b : Bool) → kept {X = Found} None b ≡ None
kept-none true = refl
kept-none false = refl

pub so-all : (drafts : List Draft) (marks : List Bool) (vs : List Verdict) (n : ℕ) → length drafts ≤ n → AreSo drafts marks vs n → (i : ℕ) → found_at vs i ≡ found_by drafts marks i
so-all drafts marks vs n long h i = elim (cases_lt i n) [
  | inl l ↦ h.each i l
  | inr l ↦
      let c = h.count in
      let none : slice_get vs i ≡ None = slice_get_past vs i (omega (arith, l, c)) in
      let out : slice_get drafts i ≡ None = slice_get_past drafts i (omega (arith, l, long)) in
      ap found_with none ∙ sym (ap (λ o. kept (draft_in o) (has_joined marks i)) out ∙ kept-none (has_joined marks i))
]

-- ---- records, one after another

pub listed-any : (test : Rec → Bool) (number start : ℕ) (rs : List Raw) → list_any (λ x. test x.1) (placed_from number start rs) ≡ list_any test (recs rs)
listed-any test number start [] = refl
listed-any test number start (r ∷ rs) = ap (λ b. test (typed r) || b) (listed-any test (number + 1) (start + length (raw_bytes r)) rs)

-- ---- modules, with what each has beside it

pub zip-get : {A B : Type 0} (R : A → B → Type 0) (xs : List A) (ys : List B) (i : ℕ) (x : A) (y : B) → AllZip R xs ys → slice_get xs i ≡ Some x → slice_get ys i ≡ Some y → R x y
zip-get R [] ys i x y h e f = absurd (none-some x e)
zip-get R (a ∷ xs) [] i x y h e f = absurd h
zip-get R (a ∷ xs) (b ∷ ys) zero x y h e f = subst (λ z. R z y) (same_Some a x e) (subst (R a) (same_Some b y f) h.0)
zip-get R (a ∷ xs) (b ∷ ys) (suc i) x y h e f = zip-get R xs ys i x y h.1 e f

draft-get : (o : Option Draft) (f : Found) → draft_in o ≡ Some f → (b : Box Found) × (o ≡ Some (Some b)) × (box_value b ≡ f)
draft-get None f e = absurd (none-some f e)
draft-get (Some None) f e = absurd (none-some f e)
draft-get (Some (Some b)) f e = (b, refl, same_Some (box_value b) f e)

pub held-at : (program : Program) (ms : List Module) (drafts : List Draft) (i : ℕ) (m : Module) (f : Found) → AllZip (IsDraft program) ms drafts → slice_get ms i ≡ Some m → draft_at drafts i ≡ Some f → IsHeld program m f
held-at program ms drafts i m f h e d =
    let there = draft-get (slice_get drafts i) f d in
    subst (IsHeld program m) there.2 (zip-get (IsDraft program) ms drafts i m (Some there.0) h e there.1)

pub draft-of : (program : Program) (m : Module) (t d : Draft) → IsDraftOf program m t d → IsDraft program m d
draft-of program m None None h = tt
draft-of program m None (Some g) h = absurd (none-some g (sym h))
draft-of program m (Some f) None h = tt
draft-of program m (Some f) (Some g) h = subst (λ (b : Box Found). IsHeld program m (box_value b)) (sym h.0) h.1

pub draft-kept : (program : Program) (m : Module) (d : Draft) (b : Bool) → IsDraft program m d → IsDraft program m (kept d b)
draft-kept program m None true h = h
draft-kept program m None false h = h
draft-kept program m (Some f) true h = h
draft-kept program m (Some f) false h = tt

pub zip-size : {A B : Type 0} (R : A → B → Type 0) (xs : List A) (ys : List B) → AllZip R xs ys → length ys ≡ length xs
zip-size R [] [] h = refl
zip-size R [] (y ∷ ys) h = absurd h
zip-size R (x ∷ xs) [] h = absurd h
zip-size R (x ∷ xs) (y ∷ ys) h = ap (λ (n : ℕ). suc n) (zip-size R xs ys h.1)

pub zip-first : {A B : Type 0} (R : A → B → Type 0) (xs : List A) (ys : List B) → ys ≡ [] → AllZip R (take 0 xs) ys
zip-first {B = B} R [] ys e = subst (λ (zs : List B). AllZip R [] zs) (sym e) tt
zip-first {B = B} R (x ∷ xs) ys e = subst (λ (zs : List B). AllZip R [] zs) (sym e) tt

pub so-first : (drafts : List Draft) (marks : List Bool) (vs : List Verdict) → vs ≡ [] → AreSo drafts marks vs 0
so-first drafts marks vs e = record { count = ap length e; each = λ i low. absurd (omega (arith, low)) }

pub as-long : (marks after : List Bool) (j : ℕ) → after ≡ set marks j true → length after ≡ length marks
as-long marks after j e = ap length e ∙ length-set marks j true
