-- What the records of a module have, such as names, read one after another.
use Rattle.std.proofs.Common.{◌≡◌, ℕ, ◌+◌, List, [], ◌∷◌, ◌++◌, length, refl, ap}
use Rattle.std.specs.Prelude.{flat_map}
use Rattle.omf_frame.specs.Framing.{Raw, raw_bytes}
use Rattle.omf_records.specs.Inner.Reading.{typed}
use Rattle.omf_records.specs.Values.{Rec}
use Rattle.omf_check.specs.Listed.{placed_from}
use Rattle.omf_check.specs.WellFormed.{recs}

pub listed-all : {A : Type 0} (names : Rec → List A) (number start : ℕ) (rs : List Raw) → flat_map (λ x. names x.1) (placed_from number start rs) ≡ flat_map names (recs rs)
listed-all names number start [] = refl
listed-all names number start (r ∷ rs) = ap (λ xs. names (typed r) ++ xs) (listed-all names (number + 1) (start + length (raw_bytes r)) rs)
