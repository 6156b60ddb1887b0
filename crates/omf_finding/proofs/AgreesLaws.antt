-- A segment agrees with a program at an address exactly if each of its intervals does.
use Rattle.std.proofs.Common.{◌≡◌, inl, inr, ℕ, zero, suc, ◌+◌, ◌-◌, ◌<◌, ◌≤◌, Bool, true, false, List, [], ◌∷◌, length, drop, Option, Some, None, refl, sym, ap, ap₂, subst, ◌∙◌, arith}
use Rattle.std.specs.Prelude.{Contains, IsSome, IsNone, slice_get, nat_le, ◌==◌, ◌||◌, if◌then◌else◌}
use Rattle.std.specs.List.{list_all}
use Rattle.std.proofs.lemmas.Bool.{leb-true, le-leb, and_parts, and_from, eqb-true, eq-eqb}
use Rattle.std.proofs.lemmas.Bool.Decides.{leb_tells}
use Rattle.std.proofs.lemmas.Option.{slice_get_within}
use Rattle.omf_image.proofs.RunLaws.{contains_first, contains_here, contains_more, within_some}
use Rattle.omf_finding.specs.Agrees.{Agrees, HasFour}
use Rattle.omf_finding.specs.Found.{program_byte}
use Rattle.omf_finding.specs.Run.{closed_byte}
use Rattle.omf_finding.specs.declared.patterning.Interval.{Interval}
use Rattle.omf_finding.specs.declared.patterning.PatternByte.{PatternByte}
use Rattle.omf_finding.specs.Inner.Shaping.{AreIntervals, IsInterval, IsWithin, bytes_from, cell_agrees, cells_agree, interval_agrees, is_at}
use Rattle.omf_finding.specs.Inner.Walking.{byte_with}
use Rattle.omf_finding.proofs.FoundLaws.{below-base, from-drop}

-- ---- lists

pub all-from : {A : Type 0} (p : A → Bool) (xs : List A) → ((x : A) → Contains xs x → p x ≡ true) → list_all p xs ≡ true
all-from p [] h = refl
all-from p (x ∷ xs) h = and_from (p x) (list_all p xs) (h x (contains_here x xs)) (all-from p xs (λ y c. h y (contains_more y x xs c)))

pub all-at : {A : Type 0} (p : A → Bool) (xs : List A) → list_all p xs ≡ true → (x : A) → Contains xs x → p x ≡ true
all-at p [] h x c = absurd (omega (arith, c.1))
all-at p (y ∷ ys) h x c =
    let both = and_parts (p y) (list_all p ys) h in
    elim (contains_first x y ys c) [ inl e ↦ ap p e ∙ both.0 | inr d ↦ all-at p ys both.1 x d ]

pub get-some : {A : Type 0} (o : Option A) → IsSome o → (x : A) × (o ≡ Some x)
get-some None h = absurd cc
get-some (Some x) h = (x, refl)

pub some-is : {A : Type 0} (o : Option A) (x : A) → o ≡ Some x → IsSome o
some-is o x e = subst IsSome (sym e) refl

pub not-both : {A : Type 0} (o : Option A) → IsSome o → IsNone o → ⊥
not-both None s n = cc
not-both (Some x) s n = cc

pub at-index : {A : Type 0} (xs : List A) (k : ℕ) → k < length xs → (x : A) × (slice_get xs k ≡ Some x)
at-index xs k low = get-some (slice_get xs k) (within_some xs k low)

-- ---- a byte

cell-by : (is_open : Bool) (v b w : ℕ) → (is_open || (v == b)) ≡ true → (if is_open then None else Some v) ≡ Some w → Some b ≡ Some w
cell-by true v b w h e = absurd cc
cell-by false v b w h e = ap Some (sym (eqb-true v b h)) ∙ e

cell-to : (is_open : Bool) (v b : ℕ) → ((w : ℕ) → (if is_open then None else Some v) ≡ Some w → v ≡ b) → (is_open || (v == b)) ≡ true
cell-to true v b h = refl
cell-to false v b h = eq-eqb v b (h v refl)

pub closed-some : (p : Option PatternByte) → IsSome (closed_byte p) → IsSome p
closed-some None h = absurd cc
closed-some (Some b) h = refl

-- ---- the bytes of a run

pub record CellAt (values marks bytes : List ℕ) (k : ℕ) : Type 0 where
  pub value : ℕ
  pub mark : ℕ
  pub byte : ℕ
  pub value_is : slice_get values k ≡ Some value
  pub mark_is : slice_get marks k ≡ Some mark
  pub byte_is : slice_get bytes k ≡ Some byte
  pub agree : cell_agrees value mark byte ≡ true

run-from : (vs ms ps : List ℕ) → length ms ≡ length vs → length vs ≤ length ps → cells_agree vs ms ps ≡ true → (k : ℕ) → k < length vs → CellAt vs ms ps k
run-from [] ms ps s l h k low = absurd (omega (arith, low))
run-from (v ∷ vs) [] ps s l h k low = absurd (omega (arith, s))
run-from (v ∷ vs) (m ∷ ms) [] s l h k low = absurd (omega (arith, l))
run-from (v ∷ vs) (m ∷ ms) (p ∷ ps) s l h zero low =
    let both = and_parts (cell_agrees v m p) (cells_agree vs ms ps) h in
    record { value = v; mark = m; byte = p; value_is = refl; mark_is = refl; byte_is = refl; agree = both.0 }
run-from (v ∷ vs) (m ∷ ms) (p ∷ ps) s l h (suc k) low =
    let both = and_parts (cell_agrees v m p) (cells_agree vs ms ps) h in
    let r = run-from vs ms ps (omega (arith, s)) (omega (arith, l)) both.1 k (omega (arith, low)) in
    record { value = r.value; mark = r.mark; byte = r.byte; value_is = r.value_is; mark_is = r.mark_is; byte_is = r.byte_is; agree = r.agree }

abbrev EachAgrees : List ℕ → List ℕ → List ℕ → Type 0
EachAgrees vs ms ps = (k v m p : ℕ) → slice_get vs k ≡ Some v → slice_get ms k ≡ Some m → slice_get ps k ≡ Some p → cell_agrees v m p ≡ true

run-to : (vs ms ps : List ℕ) → length ms ≡ length vs → length vs ≤ length ps → EachAgrees vs ms ps → cells_agree vs ms ps ≡ true
run-to [] ms ps s l h = refl
run-to (v ∷ vs) [] ps s l h = absurd (omega (arith, s))
run-to (v ∷ vs) (m ∷ ms) [] s l h = absurd (omega (arith, l))
run-to (v ∷ vs) (m ∷ ms) (p ∷ ps) s l h =
    and_from (cell_agrees v m p) (cells_agree vs ms ps) (h 0 v m p refl refl refl) (run-to vs ms ps (omega (arith, s)) (omega (arith, l)) (λ k a b c x y z. h (suc k) a b c x y z))

-- ---- an interval

module _ (byte : ℕ → Option PatternByte) (program : List ℕ) (base : ℕ) where
  from-base : (address : ℕ) → base ≤ address → bytes_from program base address ≡ drop (address - base) program
  from-base address low = ap (λ (t : Bool). if t then drop (address - base) program else []) (le-leb base address low)

  pub bytes-at : (address k : ℕ) → base ≤ address → slice_get (bytes_from program base address) k ≡ program_byte program base (address + k)
  bytes-at address k low = ap (λ (xs : List ℕ). slice_get xs k) (from-base address low) ∙ from-drop program base address k low

  -- where there is a byte, the address is none below the base
  pub bytes-above : (address : ℕ) → 0 < length (bytes_from program base address) → base ≤ address
  bytes-above address some = elim (leb_tells base address) [
    | inl t ↦ t.1
    | inr t ↦
        let none : bytes_from program base address ≡ [] = ap (λ (c : Bool). if c then drop (address - base) program else []) t.0 in
        let long = ap (λ (xs : List ℕ). length xs) none in
        absurd (omega (arith, long, some))
  ]

  -- What the program has at a place of the segment.
  pub record IsMet (address x : ℕ) : Type 0 where
    pub value : ℕ
    pub there : program_byte program base (address + x) ≡ Some value
    pub closed : (b : ℕ) → closed_byte (byte x) ≡ Some b → Some value ≡ Some b

  module _ (i : Interval) (is : IsInterval byte i) (address : ℕ) where
    abbrev start : ℕ
    start = address + i.first

    abbrev bytes : List ℕ
    bytes = bytes_from program base start

    place : (x : ℕ) → i.first ≤ x → i.first + (x - i.first) ≡ x
    place x low = omega (arith, low)

    pub interval-from : interval_agrees program base address i ≡ true → (x : ℕ) → IsWithin i x → IsMet address x
    interval-from h x w =
        let both = and_parts (nat_le (length i.values.now) (length bytes)) (cells_agree i.values.now i.marks.now bytes) h in
        let long = leb-true (length i.values.now) (length bytes) both.0 in
        let k = x - i.first in
        let back = place x w.0 in
        let low : k < length i.values.now = omega (arith, w.0, w.1) in
        let cell = run-from i.values.now i.marks.now bytes is.same long both.1 k low in
        let above = bytes-above start (omega (arith, long, low)) in
        let to : start + k ≡ address + x = omega (arith, back) in
        let known : byte x ≡ byte_with (Some cell.value) (Some cell.mark) = sym (ap byte back) ∙ is.each k low ∙ ap₂ byte_with cell.value_is cell.mark_is in
        record {
          value = cell.byte;
          there = ap (program_byte program base) (sym to) ∙ sym (bytes-at start k above) ∙ cell.byte_is;
          closed = λ b e. cell-by (cell.mark == 1) cell.value cell.byte b cell.agree (sym (ap closed_byte known) ∙ e);
        }

    module _ (h : Agrees byte program base address) where
      shown : (k : ℕ) → k < length i.values.now → (b : ℕ) × (program_byte program base (start + k) ≡ Some b)
      shown k low =
          let v = at-index i.values.now k low in
          let m = at-index i.marks.now k (omega (arith, low, is.same)) in
          let known : byte (i.first + k) ≡ byte_with (Some v.0) (Some m.0) = is.each k low ∙ ap₂ byte_with v.1 m.1 in
          let some : IsSome (byte (i.first + k)) = subst IsSome (sym known) refl in
          let to : address + (i.first + k) ≡ start + k = omega arith in
          let got = get-some (program_byte program base (address + (i.first + k))) (h.inside (i.first + k) some) in
          (got.0, ap (program_byte program base) (sym to) ∙ got.1)

      above : base ≤ start
      above =
          let first = shown 0 is.some in
          let to : start + 0 ≡ start = omega arith in
          below-base program base start first.0 (ap (program_byte program base) (sym to) ∙ first.1)

      long : length i.values.now ≤ length bytes
      long =
          let some = is.some in
          let last = length i.values.now - 1 in
          let got = shown last (omega (arith, some)) in
          let within = slice_get_within bytes last got.0 (bytes-at start last above ∙ got.1) in
          omega (arith, within, some)

      each-agrees : EachAgrees i.values.now i.marks.now bytes
      each-agrees k v m p e f g = cell-to (m == 1) v p (λ w c.
          let low = slice_get_within i.values.now k v e in
          let known : byte (i.first + k) ≡ byte_with (Some v) (Some m) = is.each k low ∙ ap₂ byte_with e f in
          let to : start + k ≡ address + (i.first + k) = omega arith in
          let there : program_byte program base (address + (i.first + k)) ≡ Some w = h.closed (i.first + k) w (ap closed_byte known ∙ c) in
          let same : Some p ≡ Some w = sym g ∙ bytes-at start k above ∙ ap (program_byte program base) to ∙ there in
          value-of (m == 1) v w p c same)
        where
          value-of : (is_open : Bool) (v w p : ℕ) → (if is_open then None else Some v) ≡ Some w → Some p ≡ Some w → v ≡ p
          value-of true v w p e f = absurd cc
          value-of false v w p e f = cc

      pub interval-to : interval_agrees program base address i ≡ true
      interval-to =
          and_from (nat_le (length i.values.now) (length bytes)) (cells_agree i.values.now i.marks.now bytes) (le-leb (length i.values.now) (length bytes) long)
          (run-to i.values.now i.marks.now bytes is.same long each-agrees)

  -- ---- a segment

  module _ (is : List Interval) (are : AreIntervals byte is) (address : ℕ) where
    met : is_at program base is address ≡ true → (x : ℕ) → IsSome (byte x) → IsMet address x
    met h x s =
        let shown = are.every x s in
        interval-from shown.0 (are.each shown.0 shown.1) address (all-at (interval_agrees program base address) is h shown.0 shown.1) x shown.2

    pub agrees-from : is_at program base is address ≡ true → Agrees byte program base address
    agrees-from h = record {
      inside = λ x s. some-is (program_byte program base (address + x)) (met h x s).value (met h x s).there;
      closed = λ x b e. let m = met h x (closed-some (byte x) (some-is (closed_byte (byte x)) b e)) in m.there ∙ m.closed b e;
    }

    pub agrees-to : Agrees byte program base address → is_at program base is address ≡ true
    agrees-to h = all-from (interval_agrees program base address) is (λ i c. interval-to i (are.each i c) address h)

-- ---- the same pattern

module _ (f g : ℕ → Option PatternByte) (same : (x : ℕ) → f x ≡ g x) where
  pub agrees-as : (program : List ℕ) (base address : ℕ) → Agrees f program base address → Agrees g program base address
  agrees-as program base address h = record {
    inside = λ x s. h.inside x (subst IsSome (sym (same x)) s);
    closed = λ x b e. h.closed x b (ap closed_byte (same x) ∙ e);
  }

  pub four-as : HasFour f → HasFour g
  four-as h = record { x = h.x; each = λ i low. subst (λ (p : Option PatternByte). IsSome (closed_byte p)) (same (h.x + i)) (h.each i low) }
