-- The runs of a memory: where they are, what they cover, and the bytes at their addresses.
use Rattle.std.proofs.Common.{◌≡◌, ℕ, zero, suc, ◌+◌, ◌-◌, ◌<◌, ◌≤◌, List, [], ◌∷◌, ◌++◌, length, map, Option, Some, None, Bool, true, false, cond, ltb, get_or, refl, sym, ap, subst, inl, inr, ◌∙◌, append_assoc, arith}
use Rattle.std.specs.Prelude.{◌⊎◌, All, IsSome, max, unwrap_or}
use Rattle.std.specs.Option.{option_or}
use Rattle.std.proofs.lemmas.Bool.{le-leb, lt-leb, lt-ltb, le-ltb}
use Rattle.std.proofs.lemmas.Bool.Decides.{leb_tells, nat_tests}
use Rattle.std.proofs.lemmas.List.Elements.{All-append}
use Rattle.std.proofs.lemmas.List.{map-append}
use Rattle.std.proofs.lemmas.Option.{slice_get-get_or}
use Rattle.omf_image.specs.Inner.Joined.{run_end}
use Rattle.omf_image.specs.Overlay.{AreBytesOver, Laid, byte_at}
use Rattle.omf_image.specs.declared.run.Run.{Run as Interval}
use Rattle.omf_image.proofs.RunLaws.{AreApart, Covers, IsIn, runs_cover}
use Rattle.omf_output.specs.declared.rom.form.Chip.{Chip}
use Rattle.omf_output.specs.declared.rom.form.Form.{Form}
use Rattle.omf_output.specs.declared.rom.form.Form.TheVariants as form
use Rattle.omf_output.specs.declared.rom.run.Run.{Run}
use Rattle.omf_output.specs.Rom.Binary.{Ascend, binary, byte_at as rom_byte}
use Rattle.omf_output.specs.Rom.Memory.{AreRunsOf, FitsIn, IsBinary, IsFile, IsFirstOutside, high, interval, low}
use Rattle.omf_output.specs.Inner.Outside.{first_outside, outside_of, text_of}
use Rattle.omf_output.specs.Rom.Runs.{AreBelow, HaveBytes}
use Rattle.omf_output.proofs.Binaries.{ascends, bytes_are, in_run}
use Rattle.omf_output.proofs.ReadBack.{hex_said, s_said}

-- ---- one more run

one : {X : Type 0} (P : X → Type 0) (x : X) → P x → All P (x ∷ [])
one P x p zero d lt = p
one P x p (suc i) d lt = absurd (omega (arith, lt))

pub all_more : {X : Type 0} (P : X → Type 0) (xs : List X) (x : X) → All P xs → P x → All P (xs ++ x ∷ [])
all_more P xs x h p = All-append P xs (x ∷ []) h (one P x p)

pub interval_more : (items new : List Run) (r : Run) (left rest all : List Interval) → new ≡ items ++ r ∷ [] → left ≡ interval r ∷ rest → map interval items ++ left ≡ all → map interval new ++ rest ≡ all
interval_more items new r left rest all is next h =
    ap (λ (rs : List Run). map interval rs ++ rest) is ∙ ap (λ (is : List Interval). is ++ rest) (map-append interval items (r ∷ []))
    ∙ append_assoc (map interval items) (interval r ∷ []) rest ∙ ap (λ (is : List Interval). map interval items ++ is) (sym next) ∙ h

-- ---- a run and an address outside

-- a run is within, or this is its first address outside
data Told (from end : ℕ) (r : Run) : Option ℕ → Type 0 where
  within : from ≤ r.address → r.address + length r.bytes.now ≤ end → Told from end r None
  starts_before : r.address < from → Told from end r (Some r.address)
  ends_after : from ≤ r.address → end < r.address + length r.bytes.now → Told from end r (Some (max r.address end))

told_by : (from end : ℕ) (r : Run) (b c : Bool) → ltb r.address from ≡ b → ltb end (r.address + length r.bytes.now) ≡ c → Told from end r (cond b (Some r.address) (cond c (Some (max r.address end)) None))
told_by from end r true c e f = starts_before (grind (arith, nat_tests))
told_by from end r false true e f = ends_after (grind (arith, nat_tests)) (grind (arith, nat_tests))
told_by from end r false false e f = within (grind (arith, nat_tests)) (grind (arith, nat_tests))

told : (from end : ℕ) (r : Run) → Told from end r (outside_of from end r)
told from end r = told_by from end r (ltb r.address from) (ltb end (r.address + length r.bytes.now)) refl refl

-- ---- runs within

abbrev Within : ℕ → ℕ → List Run → Type 0
Within from end [] = Unit {0}
Within from end (r ∷ runs) = ((from ≤ r.address) × (r.address + length r.bytes.now ≤ end)) × Within from end runs

one_within : (from end : ℕ) (r : Run) (runs : List Run) (o : Option ℕ) → Told from end r o → option_or o (first_outside from end runs) ≡ None → (first_outside from end runs ≡ None → Within from end runs)
    → Within from end (r ∷ runs)
one_within from end r runs None (within a b) f rest = ((a, b), rest f)
one_within from end r runs (Some x) t f rest = absurd cc

within_all : (from end : ℕ) (runs : List Run) → first_outside from end runs ≡ None → Within from end runs
within_all from end [] e = tt
within_all from end (r ∷ runs) e = one_within from end r runs (outside_of from end r) (told from end r) e (within_all from end runs)

within_covers : (from end x : ℕ) (runs : List Run) → Within from end runs → Covers (map interval runs) x → (from ≤ x) × (x < end)
within_covers from end x [] h c = absurd c
within_covers from end x (r ∷ runs) h (inl i) = (omega (arith, h.0.0, i.0), omega (arith, h.0.1, i.1))
within_covers from end x (r ∷ runs) h (inr d) = within_covers from end x runs h.1 d

ascends_by : (at from low end : ℕ) (runs : List Run) → at ≤ end → at ≤ max from low → AreApart low (map interval runs) → Within from end runs → Ascend at end runs
ascends_by at from low end [] le most apart h = le
ascends_by at from low end (r ∷ runs) le most apart h =
    (omega (arith, most, apart.0, h.0.0), ascends_by (r.address + length r.bytes.now) from (suc (r.address + length r.bytes.now)) end runs h.0.1 (omega arith) apart.2 h.1)

pub below_all : (at end : ℕ) (runs : List Run) → Ascend at end runs → AreBelow end runs
below_all at end [] h k d lt = absurd (omega (arith, lt))
below_all at end (r ∷ runs) h zero d lt = ascends (r.address + length r.bytes.now) end runs h.1
below_all at end (r ∷ runs) h (suc k) d lt = below_all (r.address + length r.bytes.now) end runs h.1 k d (omega (arith, lt))

-- ---- the first run that is not within

covers_from : (low x : ℕ) (runs : List Interval) → AreApart low runs → Covers runs x → low ≤ x
covers_from low x [] h c = absurd c
covers_from low x (r ∷ runs) h (inl i) = omega (arith, h.0, i.0)
covers_from low x (r ∷ runs) h (inr d) = let rest = covers_from (suc (run_end r)) x runs h.2 d in omega (arith, rest, h.0)

-- the lowest address that runs cover and that is not between two others
record IsLowest (from end : ℕ) (runs : List Interval) (a : ℕ) : Type 0 where
  covered : Covers runs a
  outside : (a < from) ⊎ (end ≤ a)
  before : (x : ℕ) → x < a → Covers runs x → (from ≤ x) × (x < end)

module _ (from end a : ℕ) (r : Run) (runs : List Run) where
  at_start : (next : ℕ) → next ≡ suc (r.address + length r.bytes.now) → 0 < length r.bytes.now → AreApart next (map interval runs) → r.address < from → r.address ≡ a → IsLowest from end (map interval (r ∷ runs)) a
  at_start next n some apart lt is = record {
    covered = inl (omega (arith, is), omega (arith, is, some));
    outside = inl (omega (arith, is, lt));
    before = λ x below c. elim c [
      | inl i ↦ absurd (omega (arith, is, below, i.0))
      | inr d ↦ let rest = covers_from next x (map interval runs) apart d in absurd (omega (arith, is, below, rest, n))
    ];
  }

  at_end : (next : ℕ) → next ≡ suc (r.address + length r.bytes.now) → 0 < length r.bytes.now → AreApart next (map interval runs) → from ≤ r.address → end < r.address + length r.bytes.now → max r.address end ≡ a
      → IsLowest from end (map interval (r ∷ runs)) a
  at_end next n some apart le lt is = record {
    covered = inl (omega (arith, is), omega (arith, is, lt, some));
    outside = inr (omega (arith, is));
    before = λ x below c. elim c [
      | inl i ↦ (omega (arith, le, i.0), omega (arith, is, below, i.0))
      | inr d ↦ let rest = covers_from next x (map interval runs) apart d in absurd (omega (arith, is, below, rest, lt, n, some))
    ];
  }

  later : from ≤ r.address → r.address + length r.bytes.now ≤ end → IsLowest from end (map interval runs) a → IsLowest from end (map interval (r ∷ runs)) a
  later le fits rest = record {
    covered = inr rest.covered;
    outside = rest.outside;
    before = λ x below c. elim c [
      | inl i ↦ (omega (arith, le, i.0), omega (arith, fits, i.1))
      | inr d ↦ rest.before x below d
    ];
  }

  one_lowest : (next : ℕ) (o : Option ℕ) → next ≡ suc (r.address + length r.bytes.now) → 0 < length r.bytes.now → AreApart next (map interval runs) → Told from end r o → option_or o (first_outside from end runs) ≡ Some a
      → (first_outside from end runs ≡ Some a → IsLowest from end (map interval runs) a) → IsLowest from end (map interval (r ∷ runs)) a
  one_lowest next None n some apart (within le fits) f rest = later le fits (rest f)
  one_lowest next (Some x) n some apart (starts_before lt) f rest = at_start next n some apart lt cc
  one_lowest next (Some x) n some apart (ends_after le lt) f rest = at_end next n some apart le lt cc

lowest_is : (from end begin a : ℕ) (runs : List Run) → AreApart begin (map interval runs) → first_outside from end runs ≡ Some a → IsLowest from end (map interval runs) a
lowest_is from end begin a [] apart e = absurd cc
lowest_is from end begin a (r ∷ runs) apart e =
    let next : ℕ = suc (r.address + length r.bytes.now) in
    one_lowest from end a r runs next (outside_of from end r) refl apart.1 apart.2 (told from end r) e (lowest_is from end next a runs apart.2)

-- ---- the byte at an address

none_there : (o : Option ℕ) (fill : ℕ) → (IsSome o → ⊥) → fill ≡ unwrap_or o fill
none_there None fill h = refl
none_there (Some v) fill h = absurd (h refl)

module _ (byte : ℕ → Option ℕ) (x : ℕ) (r : Run) (runs : List Run) where
  not_here : (IsIn x (interval r) → ⊥) → Covers (map interval (r ∷ runs)) x → Covers (map interval runs) x
  not_here none (inl i) = absurd (none i)
  not_here none (inr d) = d

  here : AreBytesOver byte (interval r) r.bytes.now → r.address ≤ x → x < r.address + length r.bytes.now → byte x ≡ Some (get_or r.bytes.now (x - r.address) 0)
  here own le lt =
      let at : r.address + (x - r.address) ≡ x = omega (arith, le) in
      ap byte (sym at) ∙ own.each (x - r.address) (omega (arith, le, lt)) ∙ slice_get-get_or r.bytes.now (x - r.address) 0 (omega (arith, le, lt))

byte_is : (byte : ℕ → Option ℕ) (fill x : ℕ) (runs : List Run) → All (λ r. AreBytesOver byte (interval r) r.bytes.now) runs → (IsSome (byte x) → Covers (map interval runs) x)
    → rom_byte fill runs x ≡ unwrap_or (byte x) fill
byte_is byte fill x [] h c = none_there (byte x) fill c
byte_is byte fill x (r ∷ runs) h c =
    let rest : All (λ q. AreBytesOver byte (interval q) q.bytes.now) runs = λ k d lt. h (suc k) d (omega (arith, lt)) in
    let after : (IsIn x (interval r) → ⊥) → rom_byte fill runs x ≡ unwrap_or (byte x) fill = λ none. byte_is byte fill x runs rest (λ s. not_here byte x r runs none (c s)) in
    elim (leb_tells r.address x) [
      | inl over ↦ elim (leb_tells (r.address + length r.bytes.now) x) [
        | inl beyond ↦ in_run fill r runs x true false (le-leb r.address x over.1) (le-ltb x (r.address + length r.bytes.now) beyond.1) ∙ after (λ i. omega (arith, i.1, beyond.1))
        | inr inside ↦
            in_run fill r runs x true true (le-leb r.address x over.1) (lt-ltb x (r.address + length r.bytes.now) inside.1)
            ∙ ap (λ (o : Option ℕ). unwrap_or o fill) (sym (here byte x r runs (h 0 r (omega arith)) over.1 inside.1))
      ]
      | inr under ↦ in_run fill r runs x false (ltb x (r.address + length r.bytes.now)) (lt-leb r.address x under.1) refl ∙ after (λ i. omega (arith, i.0, under.1))
    ]

-- ---- the file

module _ (f : Form) (image : List Laid) (runs : List Run) (are : AreRunsOf image runs) where
  apart : AreApart 0 (map interval runs)
  apart = subst (AreApart 0) (sym are.intervals) (runs_cover 0 image).apart

  covers : (x : ℕ) → IsSome (byte_at image 0 x) → Covers (map interval runs) x
  covers x s = subst (λ (rs : List Interval). Covers rs x) (sym are.intervals) ((runs_cover 0 image).covers x s)

  covered : (x : ℕ) → Covers (map interval runs) x → IsSome (byte_at image 0 x)
  covered x c = (runs_cover 0 image).covered x (subst (λ (rs : List Interval). Covers rs x) are.intervals c)

  pub first_is : (a : ℕ) → first_outside (low f) (high f) runs ≡ Some a → IsFirstOutside f (byte_at image 0) a
  first_is a e =
      let lowest = lowest_is (low f) (high f) 0 a runs apart e in
      record { some = covered a lowest.covered; outside = lowest.outside; before = λ x lt s. lowest.before x lt (covers x s) }

  pub fits_in : first_outside (low f) (high f) runs ≡ None → FitsIn f (byte_at image 0)
  fits_in e x s = within_covers (low f) (high f) x runs (within_all (low f) (high f) runs e) (covers x s)

  pub ascend : low f ≤ high f → first_outside (low f) (high f) runs ≡ None → Ascend (low f) (high f) runs
  ascend le e = ascends_by (low f) (low f) 0 (high f) runs le (omega arith) apart (within_all (low f) (high f) runs e)

pub low_high : (f : Form) → low f ≤ high f
low_high (form.Binary c) = omega arith
low_high (form.Hex base) = omega arith
low_high (form.SRecords width) = omega arith

module _ (image : List Laid) (runs : List Run) (are : AreRunsOf image runs) where
  binary_is : (c : Chip) → Ascend c.base (c.base + c.size) runs → IsBinary c (byte_at image 0) (binary c.base (c.base + c.size) c.fill runs)
  binary_is c h =
      let bytes = bytes_are c.base (c.base + c.size) c.fill runs h in
      record {
        size = bytes.size ∙ omega arith;
        each = λ i lt. bytes.each i (omega (arith, lt)) ∙ byte_is (byte_at image 0) c.fill (c.base + i) runs are.bytes (covers (form.Binary c) image runs are (c.base + i));
      }

  pub file_is : (f : Form) → HaveBytes runs → Ascend (low f) (high f) runs → IsFile f image (text_of f runs)
  file_is (form.Binary c) have h = binary_is c h
  file_is (form.Hex base) have h = record { runs = runs; all = are; text = refl; means = hex_said base runs (below_all 0 _ runs h) have }
  file_is (form.SRecords width) have h = record { runs = runs; all = are; text = refl; means = s_said width 0 runs (below_all 0 _ runs h) have }
