-- The symbols of modules, one after another: those that are there, and those of what is left, are the whole.
use Rattle.std.proofs.Common.{◌≡◌, ℕ, ◌+◌, List, [], ◌∷◌, ◌++◌, length, refl, ap, ◌∙◌, append_assoc}
use Rattle.std.specs.Prelude.{flat_map}
use Rattle.omf_check.specs.Listed.{placed_from}
use Rattle.omf_check.specs.WellFormed.{recs}
use Rattle.omf_frame.specs.Framing.{Raw, raw_bytes}
use Rattle.omf_frame.specs.declared.fault.Place.{Place}
use Rattle.omf_placement.specs.Derive.{PlacedModule}
use Rattle.omf_placement.specs.Placement.{Places}
use Rattle.omf_records.specs.Inner.Reading.{typed}
use Rattle.omf_records.specs.Values.{Rec}
use Rattle.omf_symbols.specs.Placed.{contents_symbols, module_symbols}
use Rattle.omf_symbols.specs.Symbol.{Symbol}

pub three_parts : {B : Type 0} (old a b c one two three : List B) → one ≡ old ++ a → two ≡ one ++ b → three ≡ two ++ c → three ≡ old ++ (a ++ (b ++ c))
three_parts old a b c one two three f g h =
    h ∙ ap (λ t. t ++ c) (g ∙ ap (λ t. t ++ b) f) ∙ append_assoc (old ++ a) b c ∙ append_assoc old a (b ++ c)

-- the symbols of records with their places
abbrev pub listed_symbols : ℕ → PlacedModule → List (Place × Rec) → List Symbol
listed_symbols load m xs = flat_map (λ x. contents_symbols load m x.1.contents) xs

pub listed-of : (load : ℕ) (m : PlacedModule) (number start : ℕ) (rs : List Raw) → listed_symbols load m (placed_from number start rs) ≡ flat_map (λ r. contents_symbols load m r.contents) (recs rs)
listed-of load m number start [] = refl
listed-of load m number start (r ∷ rs) =
    ap (λ xs. contents_symbols load m (typed r).contents ++ xs) (listed-of load m (number + 1) (start + length (raw_bytes r)) rs)

pub listed-symbols : (load : ℕ) (pl : Places) (rs : List Raw) → listed_symbols load (recs rs, pl) (placed_from 0 0 rs) ≡ module_symbols load (recs rs, pl)
listed-symbols load pl rs = listed-of load (recs rs, pl) 0 0 rs
