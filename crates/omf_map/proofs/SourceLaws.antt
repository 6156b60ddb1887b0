-- The lines of the sources of modules, record by record.
use Rattle.std.proofs.Common.{◌≡◌, ℕ, ◌+◌, List, [], ◌∷◌, ◌++◌, length, refl, ap}
use Rattle.std.specs.Prelude.{flat_map}
use Rattle.omf_check.specs.Listed.{placed_from}
use Rattle.omf_check.specs.WellFormed.{recs}
use Rattle.omf_frame.specs.Framing.{Raw, raw_bytes}
use Rattle.omf_frame.specs.declared.fault.Place.{Place}
use Rattle.omf_lowering.specs.Lines.{lines_of}
use Rattle.omf_placement.specs.Derive.{PlacedModule}
use Rattle.omf_placement.specs.Placement.{Places}
use Rattle.omf_records.specs.Inner.Reading.{typed}
use Rattle.omf_records.specs.Values.{Rec}
use Rattle.omf_map.specs.Far.{lines_at, source_lines}

-- the lines of records with their places
abbrev pub listed_lines : ℕ → PlacedModule → List (Place × Rec) → List ℕ
listed_lines number m xs = flat_map (λ x. lines_at number m (lines_of x.1.kind x.1.contents)) xs

listed_part : (number : ℕ) (m : PlacedModule) (n start : ℕ) (rs : List Raw) → listed_lines number m (placed_from n start rs) ≡ flat_map (λ r. lines_at number m (lines_of r.kind r.contents)) (recs rs)
listed_part number m n start [] = refl
listed_part number m n start (r ∷ rs) = ap (λ xs. lines_at number m (lines_of r.kind (typed r).contents) ++ xs) (listed_part number m (n + 1) (start + length (raw_bytes r)) rs)

pub listed-lines : (number : ℕ) (pl : Places) (rs : List Raw) → listed_lines number (recs rs, pl) (placed_from 0 0 rs) ≡ source_lines (number, (recs rs, pl))
listed-lines number pl rs = listed_part number (recs rs, pl) 0 0 rs
