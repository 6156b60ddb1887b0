-- The bytes of a run of a pattern; and a module that is in a program is found at the places of its pattern.
use Rattle.std.proofs.Common.{◌≡◌, inl, inr, ℕ, zero, suc, ◌+◌, ◌-◌, ◌<◌, ◌≤◌, Bool, true, false, cond, List, [], ◌∷◌, ◌++◌, length, drop, refl, sym, ap, ap₂, subst, ◌∙◌, arith}
use Rattle.std.specs.Prelude.{Option, Some, None, is_some, slice_get, nat_le, ◌==◌, Contains, filter}
use Rattle.std.specs.List.{range_with_len, list_all, zip}
use Rattle.std.specs.Option.{option_and_then}
use Rattle.std.proofs.lemmas.Bool.{le-leb, and_from, eq-eqb, eqb-true}
use Rattle.std.proofs.lemmas.Bool.Decides.{leb_tells}
use Rattle.std.proofs.lemmas.List.{length-drop}
use Rattle.std.proofs.lemmas.List.FromFn.{map-range_with_len_more, length-map-range_with_len}
use Rattle.std.proofs.lemmas.Option.{slice_get_within}
use Rattle.omf_frame.specs.Bytes.{is_one_of}
use Rattle.omf_records.specs.Values.{Rec}
use Rattle.omf_image.specs.Limits.{profile_limits}
use Rattle.omf_image.specs.Overlay.{byte_at, IsRunAt}
use Rattle.omf_image.specs.declared.run.Run.{Run}
use Rattle.omf_image.proofs.RunLaws.{contains_here, contains_more}
use Rattle.omf_check.specs.Sound.{ModuleHolds}
use Rattle.omf_check.specs.Tables.{entry}
use Rattle.omf_placement.specs.Placement.{Places}
use Rattle.omf_placement.specs.declared.frame.Placed.{Placed}
use Rattle.omf_reloc.specs.Image.{image}
use Rattle.omf_finding.specs.Agrees.{Agrees}
use Rattle.omf_finding.specs.Found.{program_byte, IsFound}
use Rattle.omf_finding.specs.Laws.{HasPattern, LiesAtItsPlace, FoundAgree, FoundAreListed}
use Rattle.omf_finding.specs.Pattern.{pattern}
use Rattle.omf_finding.specs.Places.{agrees, lies_at}
use Rattle.omf_finding.specs.Run.{closed_byte, cells, IsPatternRun}
use Rattle.omf_finding.specs.declared.patterning.PatternByte.{PatternByte}
use Rattle.omf_finding.specs.Inner.Walking.{Marks, byte_in}
use Rattle.omf_finding.proofs.AgreesLaws.{closed-some, some-is}
use Rattle.omf_finding.proofs.FoundLaws.{below-base, from-drop}
use Rattle.omf_finding.proofs.PatternLaws.{have-pattern}

-- ---- the bytes of a run

pub cells-more : (byte : ℕ → Option PatternByte) (first n : ℕ) → cells byte first (n + 1) ≡ cells byte first n ++ closed_byte (byte (first + n)) ∷ []
cells-more byte first n = map-range_with_len_more (λ x. closed_byte (byte x)) first n (first + n) refl

pub cells-next : (byte : ℕ → Option PatternByte) (first n offset : ℕ) (old new : List (Option ℕ)) → old ≡ cells byte first n → offset ≡ first + n → new ≡ old ++ closed_byte (byte offset) ∷ [] → new ≡ cells byte first (n + 1)
cells-next byte first n offset old new e at h =
    h ∙ ap (λ (xs : List (Option ℕ)). xs ++ closed_byte (byte offset) ∷ []) e ∙ ap (λ (x : ℕ). cells byte first n ++ closed_byte (byte x) ∷ []) at ∙ sym (cells-more byte first n)

pub run-shown : (p : Marks) (segment k : ℕ) (run : Run) (bytes : List (Option ℕ)) → IsRunAt (byte_at p.values segment) k (Some run) → bytes ≡ cells (byte_in p segment) run.first run.len
    → IsPatternRun p segment k (Some (run.first, bytes))
run-shown p segment k run bytes h e =
    let size : length bytes ≡ run.len = ap (λ (xs : List (Option ℕ)). length xs) e ∙ length-map-range_with_len (λ x. closed_byte (byte_in p segment x)) run.first run.len in (
      subst (λ (n : ℕ). let r : Run = record { first = run.first; len = n } in IsRunAt (byte_at p.values segment) k (Some r)) (sym size) h,
      e ∙ ap (λ (n : ℕ). cells (byte_in p segment) run.first n) (sym size),
    )

-- ---- a pattern is where each of its bytes agrees

pub record Meets (byte : Option PatternByte) (there : Option ℕ) : Type 0 where
  pub value : ℕ
  pub is : there ≡ Some value
  pub agree : agrees (closed_byte byte) value ≡ true

all-meet : (byte : ℕ → Option PatternByte) (first n : ℕ) (xs : List ℕ) → ((i : ℕ) → i < n → Meets (byte (first + i)) (slice_get xs i)) → list_all (λ p. agrees p.0 p.1) (zip (cells byte first n) xs) ≡ true
all-meet byte first zero xs h = refl
all-meet byte first (suc n) [] h = let m = h 0 (omega arith) in absurd (let q : None ≡ Some m.value = m.is in cc)
all-meet byte first (suc n) (x ∷ xs) h =
    let m = h 0 (omega arith) in
    let q : Some x ≡ Some m.value = m.is in
    let here : m.value ≡ x = cc in
    let start : first + 0 ≡ first = omega arith in
    let one : agrees (closed_byte (byte first)) x ≡ true = sym (ap₂ (λ (a b : ℕ). agrees (closed_byte (byte a)) b) start here) ∙ m.agree in
    and_from (agrees (closed_byte (byte first)) x) (list_all (λ p. agrees p.0 p.1) (zip (cells byte (first + 1) n) xs)) one
    (all-meet byte (first + 1) n xs (λ i low. let next : first + suc i ≡ first + 1 + i = omega arith in subst (λ (a : ℕ). Meets (byte a) (slice_get xs i)) next (h (suc i) (omega (arith, low)))))

meets-within : (byte : ℕ → Option PatternByte) (first n : ℕ) (xs : List ℕ) → 0 < n → ((i : ℕ) → i < n → Meets (byte (first + i)) (slice_get xs i)) → n ≤ length xs
meets-within byte first n xs some h =
    let m = h (n - 1) (omega (arith, some)) in
    let low = slice_get_within xs (n - 1) m.value m.is in
    omega (arith, low, some)

-- ---- what passes a test is filtered out

filter-more : {A : Type 0} (test : A → Bool) (b : Bool) (y x : A) (xs : List A) → Contains xs x → Contains (cond b (y ∷ xs) xs) x
filter-more test true y x xs h = contains_more x y xs h
filter-more test false y x xs h = h

places-from : (test : ℕ → Bool) (a n x : ℕ) → a ≤ x → x < a + n → test x ≡ true → Contains (filter test (range_with_len a n)) x
places-from test a zero x low high e = absurd (omega (arith, low, high))
places-from test a (suc n) x low high e = elim (leb_tells (a + 1) x) [
  | inl t ↦ filter-more test (test a) a x (filter test (range_with_len (a + 1) n)) (places-from test (a + 1) n x t.1 (omega (arith, high)) e)
  | inr t ↦
      let same : a ≡ x = omega (arith, low, t.1) in
      let rest = filter test (range_with_len (a + 1) n) in
      subst (λ (b : Bool). Contains (cond b (a ∷ rest) rest) x) (sym (ap test same ∙ e)) (subst (λ (y : ℕ). Contains (y ∷ rest) x) (sym same) (contains_here x rest))
]

-- ---- a module that is in a program is found at the places of its pattern

some-of : {A : Type 0} (o : Option A) → is_some o ≡ true → (x : A) × (o ≡ Some x)
some-of None h = absurd (let q : false ≡ true = h in cc)
some-of (Some x) h = (x, refl)

agree-by : (is_open : Bool) (value b : ℕ) → (is_open ≡ false → value ≡ b) → agrees (closed_byte (Some (record { value = value; is_open = is_open }))) b ≡ true
agree-by true value b h = refl
agree-by false value b h = eq-eqb value b (h refl)

module _ (m : List Rec) (pl : Places) (absent program : List ℕ) (base : ℕ) (holds : ModuleHolds profile_limits m) (found : IsFound m pl absent program base) (segment : ℕ) (none : is_one_of absent segment ≡ false) (place : Placed) (at : entry pl.segments segment ≡ Some place) where
  abbrev byte : ℕ → Option PatternByte
  byte x = pattern profile_limits m segment x

  have : HasPattern pl m
  have = have-pattern pl m holds

  there : (x b : ℕ) → image profile_limits pl m segment x ≡ Some b → program_byte program base (place.address + x) ≡ Some b
  there x b e = sym (ap (option_and_then (λ (p : Placed). program_byte program base (p.address + x))) at) ∙ found.bytes segment x b none e

  meets : (x : ℕ) → is_some (byte x) ≡ true → Meets (byte x) (program_byte program base (place.address + x))
  meets x some =
      let q = some-of (byte x) some in
      let b = some-of (image profile_limits pl m segment x) (have.same_places segment x ∙ some) in
      let own : q.0.is_open ≡ false → q.0.value ≡ b.0 =
      λ e.
      let known : byte x ≡ Some (record { value = q.0.value; is_open = false }) = q.1 ∙ ap (λ (o : Bool). let p : PatternByte = record { value = q.0.value; is_open = o } in Some p) e in
      let both : Some q.0.value ≡ Some b.0 = sym (have.closed_bytes segment x q.0.value known) ∙ b.1 in
      cc
      in
      record { value = b.0; is = there x b.0 b.1; agree = ap (λ (o : Option PatternByte). agrees (closed_byte o) b.0) q.1 ∙ agree-by q.0.is_open q.0.value b.0 own }

  pub lies-listed : (first n : ℕ) → 0 < n → ((i : ℕ) → i < n → is_some (byte (first + i)) ≡ true) → LiesAtItsPlace (cells byte first n) program base (place.address + first)
  lies-listed first n some covered =
      let start = place.address + first in
      let zeroth = meets (first + 0) (covered 0 some) in
      let above0 = below-base program base (place.address + (first + 0)) zeroth.value zeroth.is in
      let above : base ≤ start = omega (arith, above0) in
      let each : (i : ℕ) → i < n → Meets (byte (first + i)) (slice_get (drop (start - base) program) i) =
      λ i low.
      let to : place.address + (first + i) ≡ start + i = omega arith in
      subst (Meets (byte (first + i))) (ap (program_byte program base) to ∙ sym (from-drop program base start i above)) (meets (first + i) (covered i low))
      in
      let within = meets-within byte first n (drop (start - base) program) some each in
      let size = length-map-range_with_len (λ x. closed_byte (byte x)) first n in
      let short = length-drop (start - base) program in
      let ends : start - base + length (cells byte first n) ≤ length program = omega (arith, within, size, short, some) in
      record {
        above = above;
        listed = places-from (lies_at (cells byte first n) program) 0 (length program + 1) (start - base) (omega arith) (omega (arith, ends))
            (and_from (nat_le (start - base + length (cells byte first n)) (length program)) (list_all (λ p. agrees p.0 p.1) (zip (cells byte first n) (drop (start - base) program)))
            (le-leb (start - base + length (cells byte first n)) (length program) ends) (all-meet byte first n (drop (start - base) program) each));
      }

  pub agrees-there : Agrees byte program base place.address
  agrees-there = record {
    inside = λ x some. let got = meets x some in some-is (program_byte program base (place.address + x)) got.value got.is;
    closed = λ x b e.
        let got = meets x (closed-some (byte x) (some-is (closed_byte (byte x)) b e)) in
        let same : (b == got.value) ≡ true = sym (ap (λ (o : Option ℕ). agrees o got.value) e) ∙ got.agree in
        got.is ∙ ap Some (sym (eqb-true b got.value same));
  }

pub found-agree : FoundAgree
found-agree m pl absent program base segment place holds found none at = agrees-there m pl absent program base holds found segment none place at

pub found-listed : FoundAreListed
found-listed m pl absent program base segment first len place holds found none at some covered = lies-listed m pl absent program base holds found segment none place at first len some covered
