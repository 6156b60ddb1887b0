-- The rows of the records that are left.
use Rattle.std.proofs.Common.{◌≡◌, ℕ, ◌+◌, ◌-◌, ◌^◌, ◌<◌, ◌≤◌, List, [], ◌∷◌, ◌++◌, refl, sym, ap, ap₂, subst, ◌∙◌, arith, length, append_assoc, append-nil}
use Rattle.omf_frame.specs.Framing.{Raw, raw_bytes, front_record, present, after_front}
use Rattle.omf_image.specs.declared.limits.Limits.{Limits}
use Rattle.omf_check.specs.Listed.{StartsWithRecord}
use Rattle.omf_check.specs.Module.{records_in}
use Rattle.omf_check.specs.WellFormed.{IsWellFormed}
use Rattle.omf_check.specs.declared.profile.Profile.{Profile}
use Rattle.omf_reloc.proofs.LeftLaws.{AreLeft, all-left, left-kind, left-less, left-next, left-size, left-starts, none-left, parts}
use Rattle.omf_c.specs.Records.{record_rows, record_rows_from}
use Rattle.omf_c.specs.declared.rows.RecordRow.{RecordRow}

-- The bytes that are left are records; the rows so far, with theirs, are all rows; and the numbers and offsets to come are small.
pub record AreShown (all : List RecordRow) (left : List ℕ) (number start : ℕ) (rows : List RecordRow) : Type 0 where
  pub records : List Raw
  pub here : AreLeft left records
  pub same : rows ++ record_rows_from number start records ≡ all
  pub few : number + length records < 2 ^ 32
  pub short : start + length left ≤ 2 ^ 63

pub shown-first : (profile : Profile) (limits : Limits) (bytes left : List ℕ) (rows : List RecordRow) (count : ℕ) → IsWellFormed profile limits bytes (records_in bytes) → left ≡ bytes → rows ≡ [] → count ≡ length (records_in bytes) → count < 2 ^ 32
    → length left ≤ 2 ^ 63 → AreShown (record_rows (records_in bytes)) left 0 0 rows
shown-first profile limits bytes left rows count w e none counted few short = record {
  records = records_in bytes;
  here = subst (λ (b : List ℕ). AreLeft b (records_in bytes)) (sym e) (all-left profile limits bytes w);
  same = ap (λ (xs : List RecordRow). xs ++ record_rows (records_in bytes)) none;
  few = omega (arith, counted, few);
  short = omega (arith, short);
}

pub shown-last : (all : List RecordRow) (left : List ℕ) (number start : ℕ) (rows : List RecordRow) → AreShown all left number start rows → left ≡ [] → rows ≡ all
shown-last all left number start rows h e =
    let none = none-left h.records (sym e ∙ h.here.spelled) in
    sym (append-nil rows) ∙ sym (ap (λ (rs : List Raw). rows ++ record_rows_from number start rs) none) ∙ h.same

module _ (all : List RecordRow) (left : List ℕ) (number start : ℕ) (rows : List RecordRow) (h : AreShown all left number start rows) (low : 0 < length left) where
  abbrev some : (r : Raw) × (more : List Raw) × (h.records ≡ r ∷ more)
  some = parts left h.records h.here low

  pub shown-starts : StartsWithRecord left
  shown-starts = left-starts left h.records h.here low

  pub shown-few : number + 1 < 2 ^ 32
  shown-few = let n = ap (λ (rs : List Raw). length rs) some.2 in let f = h.few in omega (arith, n, f)

  module _ (rest : List ℕ) (e : rest ≡ after_front left) where
    pub shown-less : length rest < length left
    shown-less = left-less left h.records h.here low rest e

    pub shown-short : start + (length left - length rest) ≤ 2 ^ 63
    shown-short = let f = h.short in let l = shown-less in omega (arith, f, l)

    pub shown-next : (kind : ℕ) (row : RecordRow) (new : List RecordRow) → kind ≡ (front_record (present left)).kind
        → row ≡ record { bytes = record { offset = start; size = length left - length rest }; type_byte = kind; number = number } → new ≡ rows ++ row ∷ []
        → AreShown all rest (number + 1) (start + (length left - length rest)) new
    shown-next kind row new k is put =
        let size = left-size left h.records h.here low rest e in
        let here : length left - length rest ≡ length (raw_bytes some.0) = omega (arith, size) in
        let one = λ (n t : ℕ). let x : RecordRow = record { bytes = record { offset = start; size = n }; type_byte = t; number = number } in x in
        let row_is : row ≡ one (length (raw_bytes some.0)) some.0.kind = is ∙ ap₂ one here (left-kind left h.records h.here low kind k) in
        record {
          records = some.1;
          here = left-next left h.records h.here low rest e;
          same =
              ap₂ (λ (xs : List RecordRow) (n : ℕ). xs ++ record_rows_from (number + 1) (start + n) some.1) (put ∙ ap (λ (x : RecordRow). rows ++ x ∷ []) row_is) here
              ∙ append_assoc rows (one (length (raw_bytes some.0)) some.0.kind ∷ []) (record_rows_from (number + 1) (start + length (raw_bytes some.0)) some.1)
              ∙ sym (ap (λ (rs : List Raw). rows ++ record_rows_from number start rs) some.2)
              ∙ h.same;
          few = let n = ap (λ (rs : List Raw). length rs) some.2 in let f = h.few in omega (arith, n, f);
          short = let f = h.short in let l = shown-less in omega (arith, f, l);
        }
