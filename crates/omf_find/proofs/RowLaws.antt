-- The rows of records with their places.
use Rattle.std.proofs.Common.{◌≡◌, ℕ, ◌+◌, Bool, List, [], ◌∷◌, ◌++◌, length, ap, refl}
use Rattle.std.specs.Prelude.{flat_map}
use Rattle.omf_frame.specs.Framing.{Raw, raw_bytes}
use Rattle.omf_frame.specs.declared.fault.Place.{Place}
use Rattle.omf_records.specs.Inner.Reading.{typed}
use Rattle.omf_records.specs.Values.{Rec}
use Rattle.omf_check.specs.Listed.{placed_from}
use Rattle.omf_check.specs.WellFormed.{recs}
use Rattle.omf_finding.specs.declared.findings.Found.{Found}
use Rattle.omf_find.specs.NameRow.{NameRow}
use Rattle.omf_find.specs.Rows.{public_rows, record_rows}

-- the rows of records with their places
abbrev pub listed_rows : Bool → ℕ → Found → List (Place × Rec) → List NameRow
listed_rows local number f xs = flat_map (λ x. record_rows local number f x.1.kind x.1.contents) xs

pub listed-rows : (local : Bool) (n : ℕ) (f : Found) (number start : ℕ) (rs : List Raw) → listed_rows local n f (placed_from number start rs) ≡ public_rows local n (recs rs) f
listed-rows local n f number start [] = refl
listed-rows local n f number start (r ∷ rs) =
    ap (λ xs. record_rows local n f r.kind (typed r).contents ++ xs) (listed-rows local n f (number + 1) (start + length (raw_bytes r)) rs)

pub rows-more : (local : Bool) (n : ℕ) (f : Found) (left : List (Place × Rec)) (x : Place × Rec) (xs : List (Place × Rec)) → left ≡ x ∷ xs
    → listed_rows local n f left ≡ record_rows local n f x.1.kind x.1.contents ++ listed_rows local n f xs
rows-more local n f left x xs e = ap (listed_rows local n f) e
