-- An image beside a program, run by run.
use Rattle.std.proofs.Common.{◌≡◌, inl, inr, ℕ, zero, suc, ◌+◌, ◌-◌, ◌<◌, ◌≤◌, Bool, true, false, cond, List, [], ◌∷◌, length, take, drop, refl, sym, ap, subst, ◌∙◌, arith}
use Rattle.std.specs.Prelude.{All, Option, Some, None, is_some, slice_get, nat_le, ◌==◌}
use Rattle.std.specs.Cmp.Lexicographic.{pointwise}
use Rattle.std.proofs.lemmas.Bool.{leb-true, le-leb, and_parts, and_from, eqb-true, eq-eqb}
use Rattle.std.proofs.lemmas.Bool.Decides.{leb_tells}
use Rattle.std.proofs.lemmas.List.Elements.{All-nil, All-cons, All-head, All-tail}
use Rattle.std.proofs.lemmas.Option.{slice_get_within}
use Rattle.omf_image.specs.Inner.Joined.{runs_of}
use Rattle.omf_image.specs.Overlay.{Laid, byte_at, AreBytesOver, spanned}
use Rattle.omf_image.specs.declared.run.Run.{Run}
use Rattle.omf_image.proofs.RunLaws.{IsIn, Covers, runs_cover}
use Rattle.omf_finding.specs.Found.{program_byte}
use Rattle.omf_finding.specs.Inner.Agreeing.{lies_in, SegmentAgrees}

-- ---- bytes from an address on

abbrev same : ℕ → ℕ → Bool
same a b = a == b

begins-get : (bytes xs : List ℕ) → pointwise same bytes (take (length bytes) xs) ≡ true → (i b : ℕ) → slice_get bytes i ≡ Some b → slice_get xs i ≡ Some b
begins-get [] xs e i b h = absurd cc
begins-get (c ∷ bytes) [] e i b h = absurd (let t : false ≡ true = e in cc)
begins-get (c ∷ bytes) (x ∷ xs) e zero b h =
    let both = and_parts (same c x) (pointwise same bytes (take (length bytes) xs)) e in
    let p : c ≡ x = eqb-true c x both.0 in
    ap Some (sym p) ∙ h
begins-get (c ∷ bytes) (x ∷ xs) e (suc i) b h = begins-get bytes xs (and_parts (same c x) (pointwise same bytes (take (length bytes) xs)) e).1 i b h

get-begins : (bytes xs : List ℕ) → ((i b : ℕ) → slice_get bytes i ≡ Some b → slice_get xs i ≡ Some b) → pointwise same bytes (take (length bytes) xs) ≡ true
get-begins [] xs h = refl
get-begins (c ∷ bytes) [] h = absurd (let t : None ≡ Some c = h 0 c refl in cc)
get-begins (c ∷ bytes) (x ∷ xs) h =
    let t : Some x ≡ Some c = h 0 c refl in
    let p : c ≡ x = cc in
    and_from (same c x) (pointwise same bytes (take (length bytes) xs)) (eq-eqb c x p) (get-begins bytes xs (λ i b e. h (suc i) b e))

pub get-drop : (n i : ℕ) (xs : List ℕ) → slice_get (drop n xs) i ≡ slice_get xs (n + i)
get-drop zero i xs = let e : i ≡ 0 + i = omega arith in ap (slice_get xs) e
get-drop (suc n) i [] = refl
get-drop (suc n) i (x ∷ xs) = let e : suc (n + i) ≡ suc n + i = omega arith in get-drop n i xs ∙ ap (slice_get (x ∷ xs)) e

module _ (program : List ℕ) (base : ℕ) where
  at-address : (address : ℕ) → base ≤ address → program_byte program base address ≡ slice_get program (address - base)
  at-address address low = ap (λ t. cond t (slice_get program (address - base)) None) (le-leb base address low)

  pub below-base : (address b : ℕ) → program_byte program base address ≡ Some b → base ≤ address
  below-base address b e = elim (leb_tells base address) [
    | inl t ↦ t.1
    | inr t ↦ absurd (let none : program_byte program base address ≡ None = ap (λ c. cond c (slice_get program (address - base)) None) t.0 in let q : None ≡ Some b = sym none ∙ e in cc)
  ]

  pub from-drop : (address i : ℕ) → base ≤ address → slice_get (drop (address - base) program) i ≡ program_byte program base (address + i)
  from-drop address i low =
      let e : address - base + i ≡ address + i - base = omega (arith, low) in
      get-drop (address - base) i program ∙ ap (slice_get program) e ∙ sym (at-address (address + i) (omega (arith, low)))

  abbrev AgreesFrom : ℕ → List ℕ → Type 0
  AgreesFrom address bytes = (i b : ℕ) → slice_get bytes i ≡ Some b → program_byte program base (address + i) ≡ Some b

  pub lies-agrees : (address : ℕ) (bytes : List ℕ) → lies_in program base address bytes ≡ true → AgreesFrom address bytes
  lies-agrees address bytes e i b h =
      let both = and_parts (nat_le base address) (pointwise same bytes (take (length bytes) (drop (address - base) program))) e in
      let low = leb-true base address both.0 in
      sym (from-drop address i low) ∙ begins-get bytes (drop (address - base) program) both.1 i b h

  pub agrees-lies : (address : ℕ) (bytes : List ℕ) → 0 < length bytes → AgreesFrom address bytes → lies_in program base address bytes ≡ true
  agrees-lies address [] some h = absurd (omega (arith, some))
  agrees-lies address (c ∷ bytes) some h =
      let first : base ≤ address + 0 = below-base (address + 0) c (h 0 c refl) in
      let low : base ≤ address = omega (arith, first) in
      and_from (nat_le base address) (pointwise same (c ∷ bytes) (take (length (c ∷ bytes)) (drop (address - base) program))) (le-leb base address low)
      (get-begins (c ∷ bytes) (drop (address - base) program) (λ i b e. from-drop address i low ∙ h i b e))

  -- ---- the runs of a segment

  module _ (image : List Laid) (segment address : ℕ) where
    abbrev byte : ℕ → Option ℕ
    byte x = byte_at image segment x

    abbrev pub RunAgrees : Run → Type 0
    RunAgrees r = (x b : ℕ) → IsIn x r → byte x ≡ Some b → program_byte program base (address + x) ≡ Some b

    pub run-agrees : (first : ℕ) (bytes : List ℕ) → AreBytesOver byte (spanned first bytes) bytes → lies_in program base (address + first) bytes ≡ true → RunAgrees (spanned first bytes)
    run-agrees first bytes over e x b (from, to) h =
        let i = x - first in
        let back : first + i ≡ x = omega (arith, from) in
        let place : address + first + i ≡ address + x = omega (arith, from) in
        let here : slice_get bytes i ≡ Some b = sym (over.each i (omega (arith, from, to))) ∙ ap byte back ∙ h in
        ap (program_byte program base) (sym place) ∙ lies-agrees (address + first) bytes e i b here

    pub run-lies : (first : ℕ) (bytes : List ℕ) → 0 < length bytes → AreBytesOver byte (spanned first bytes) bytes → SegmentAgrees image segment address program base → lies_in program base (address + first) bytes ≡ true
    run-lies first bytes some over agrees =
        agrees-lies (address + first) bytes some (λ i b e.
        let low = slice_get_within bytes i b e in
        let place : address + (first + i) ≡ address + first + i = omega arith in
        sym (ap (program_byte program base) place) ∙ agrees (first + i) b (over.each i low ∙ e))

    covered : (runs : List Run) → All RunAgrees runs → (x b : ℕ) → Covers runs x → byte x ≡ Some b → program_byte program base (address + x) ≡ Some b
    covered [] h x b c e = absurd c
    covered (r ∷ runs) h x b (inl i) e = All-head RunAgrees r runs h x b i e
    covered (r ∷ runs) h x b (inr c) e = covered runs (All-tail RunAgrees r runs h) x b c e

    pub all-agree : All RunAgrees (runs_of image segment) → SegmentAgrees image segment address program base
    all-agree h x b e = covered (runs_of image segment) h x b ((runs_cover segment image).covers x (ap is_some e)) e

    -- if the runs that are left agree, all do
    abbrev pub LeftAgree : List Run → Type 0
    LeftAgree left = All RunAgrees left → All RunAgrees (runs_of image segment)

    pub left-next : (left rest : List Run) (r : Run) → left ≡ r ∷ rest → RunAgrees r → LeftAgree left → LeftAgree rest
    left-next left rest r e here h g = h (subst (All RunAgrees) (sym e) (All-cons RunAgrees r rest here g))

    pub left-none : (left : List Run) → left ≡ [] → LeftAgree left → SegmentAgrees image segment address program base
    left-none left e h = all-agree (h (subst (All RunAgrees) (sym e) (All-nil RunAgrees)))
