-- The data records that are left.
use Rattle.std.proofs.Common.{◌≡◌, ℕ, ◌+◌, List, [], ◌∷◌, ◌++◌, Bool, true, false, refl, sym, ap, subst, ◌∙◌, length}
use Rattle.std.specs.Prelude.{⊤, All, ◌==◌, Some}
use Rattle.std.proofs.lemmas.List.Elements.{All-head, All-tail}
use Rattle.omf_frame.specs.Framing.{Raw, raw_bytes}
use Rattle.omf_frame.specs.declared.fault.Place.{Place}
use Rattle.omf_records.specs.Inner.Reading.{typed}
use Rattle.omf_records.specs.Values.{Rec}
use Rattle.omf_image.specs.Limits.{profile_limits}
use Rattle.omf_check.specs.Listed.{placed_from}
use Rattle.omf_check.specs.Sound.{ModuleHolds}
use Rattle.omf_check.specs.WellFormed.{recs}
use Rattle.omf_reloc.specs.Inner.Measuring.{CanMeasure}
use Rattle.omf_reloc.proofs.MeasureLaws.{all-measure}
use Rattle.omf_c.specs.Data.{bytes_if, contents_bytes, numbered}

-- the blocks of each of these records expand
abbrev pub AllMeasure : List (Place × Rec) → Type 0
AllMeasure [] = ⊤
AllMeasure (x ∷ xs) = CanMeasure x.1 × AllMeasure xs

measured-from : (number start : ℕ) (rs : List Raw) → All CanMeasure (recs rs) → AllMeasure (placed_from number start rs)
measured-from number start [] h = tt
measured-from number start (r ∷ rs) h = (All-head CanMeasure (typed r) (recs rs) h, measured-from (number + 1) (start + length (raw_bytes r)) rs (All-tail CanMeasure (typed r) (recs rs) h))

pub all-measured : (rs : List Raw) → ModuleHolds profile_limits (recs rs) → AllMeasure (placed_from 0 0 rs)
all-measured rs holds = measured-from 0 0 rs (all-measure (recs rs) holds)

-- the record with the number is the first of those that are left, or one after it
pub here-numbered : (number : ℕ) (xs ys : List (Place × Rec)) (x : Place × Rec) → xs ≡ x ∷ ys → (x.0.number == number) ≡ true → numbered number xs ≡ Some x.1
here-numbered number xs ys x e same = ap (numbered number) e ∙ (rw same refl)

pub not-numbered : (number : ℕ) (xs ys : List (Place × Rec)) (x : Place × Rec) → xs ≡ x ∷ ys → (x.0.number == number) ≡ false → numbered number xs ≡ numbered number ys
not-numbered number xs ys x e other = ap (numbered number) e ∙ (rw other refl)
