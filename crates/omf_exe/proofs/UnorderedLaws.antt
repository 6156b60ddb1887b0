-- What is written of a module without the comments that ask for DOS order.
use Rattle.std.proofs.Common.{◌≡◌, ℕ, ◌-◌, ◌<◌, List, [], ◌∷◌, ◌++◌, cond, take, refl, sym, ap, ap₂, subst, ◌∙◌, arith, length, append_assoc, append-nil}
use Rattle.std.specs.Prelude.{flat_map}
use Rattle.std.proofs.Math.Seq.{take-append_seam}
use Rattle.omf_frame.specs.Framing.{Raw, raw_bytes, front_record, present, after_front}
use Rattle.omf_image.specs.declared.limits.Limits.{Limits}
use Rattle.omf_check.specs.Listed.{StartsWithRecord}
use Rattle.omf_check.specs.Module.{records_in}
use Rattle.omf_check.specs.WellFormed.{IsWellFormed}
use Rattle.omf_check.specs.declared.profile.Profile.{Profile}
use Rattle.omf_reloc.proofs.LeftLaws.{AreLeft, all-left, left-body, left-kind, left-less, left-next, left-size, left-starts, none-left, parts}
use Rattle.omf_exe.specs.Joined.{asks_order, ordered_bytes, without_order}

-- The bytes that are left are records; and what is written so far, with what is kept of these, is all.
pub record AreWritten (all left out : List ℕ) : Type 0 where
  pub records : List Raw
  pub here : AreLeft left records
  pub same : out ++ flat_map ordered_bytes records ≡ all

pub written-first : (profile : Profile) (limits : Limits) (bytes left out : List ℕ) → IsWellFormed profile limits bytes (records_in bytes) → left ≡ bytes → AreWritten (out ++ without_order bytes) left out
written-first profile limits bytes left out w e = record {
  records = records_in bytes;
  here = subst (λ (b : List ℕ). AreLeft b (records_in bytes)) (sym e) (all-left profile limits bytes w);
  same = refl;
}

pub written-last : (all left out : List ℕ) → AreWritten all left out → left ≡ [] → out ≡ all
written-last all left out h e =
    let none = none-left h.records (sym e ∙ h.here.spelled) in
    sym (append-nil out) ∙ sym (ap (λ (rs : List Raw). out ++ flat_map ordered_bytes rs) none) ∙ h.same

module _ (all left out : List ℕ) (h : AreWritten all left out) (low : 0 < length left) where
  abbrev some : (r : Raw) × (more : List Raw) × (h.records ≡ r ∷ more)
  some = parts left h.records h.here low

  pub written-starts : StartsWithRecord left
  written-starts = left-starts left h.records h.here low

  module _ (rest : List ℕ) (e : rest ≡ after_front left) where
    pub written-less : length rest < length left
    written-less = left-less left h.records h.here low rest e

    own-is : take (length left - length rest) left ≡ raw_bytes some.0
    own-is =
        let size = left-size left h.records h.here low rest e in
        let here : length left - length rest ≡ length (raw_bytes some.0) = omega (arith, size) in
        ap₂ (λ (n : ℕ) (bs : List ℕ). take n bs) here (h.here.spelled ∙ ap (flat_map raw_bytes) some.2) ∙ take-append_seam (raw_bytes some.0) (flat_map raw_bytes some.1)

    pub written-next : (kind : ℕ) (body own new : List ℕ) → kind ≡ (front_record (present left)).kind → body ≡ (front_record (present left)).body → own ≡ take (length left - length rest) left
        → new ≡ out ++ cond (asks_order kind body) [] own → AreWritten all rest new
    written-next kind body own new k b o put =
        let kind-is = left-kind left h.records h.here low kind k in
        let body-is = left-body left h.records h.here low body b in
        let kept : cond (asks_order kind body) [] own ≡ ordered_bytes some.0 = ap₂ (λ (x : ℕ) (y : List ℕ). cond (asks_order x y) [] own) kind-is body-is ∙ ap (λ (bs : List ℕ). cond (asks_order some.0.kind some.0.body) [] bs) (o ∙ own-is) in
        record {
          records = some.1;
          here = left-next left h.records h.here low rest e;
          same =
              ap (λ (bs : List ℕ). bs ++ flat_map ordered_bytes some.1) (put ∙ ap (λ (bs : List ℕ). out ++ bs) kept)
              ∙ append_assoc out (ordered_bytes some.0) (flat_map ordered_bytes some.1)
              ∙ sym (ap (λ (rs : List Raw). out ++ flat_map ordered_bytes rs) some.2)
              ∙ h.same;
        }
