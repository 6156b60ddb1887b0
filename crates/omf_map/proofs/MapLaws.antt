-- The publics of records with their places.
use Rattle.std.proofs.Common.{◌≡◌, ℕ, ◌+◌, Bool, List, [], ◌∷◌, ◌++◌, length, refl, ap, ◌∙◌}
use Rattle.std.specs.Prelude.{flat_map, Option}
use Rattle.std.proofs.lemmas.List.Concat.{flat_map-append}
use Rattle.omf_records.specs.Values.{Rec}
use Rattle.omf_frame.specs.Framing.{Raw, raw_bytes}
use Rattle.omf_frame.specs.declared.fault.Place.{Place}
use Rattle.omf_records.specs.Inner.Reading.{typed}
use Rattle.omf_check.specs.Listed.{placed_from}
use Rattle.omf_check.specs.WellFormed.{recs}
use Rattle.omf_map.specs.Addresses.{NamedAddress, publics_asked, publics_of}

-- the publics of records with their places
abbrev pub listed_publics : Bool → List (Option ℕ) → List (Place × Rec) → List NamedAddress
listed_publics local segments xs = flat_map (λ x. publics_asked local segments x.1.kind x.1.contents) xs

pub listed-publics : (local : Bool) (segments : List (Option ℕ)) (number start : ℕ) (rs : List Raw) → listed_publics local segments (placed_from number start rs) ≡ publics_of local (recs rs, segments)
listed-publics local segments number start [] = refl
listed-publics local segments number start (r ∷ rs) =
    ap (λ xs. publics_asked local segments r.kind (typed r).contents ++ xs) (listed-publics local segments (number + 1) (start + length (raw_bytes r)) rs)

pub lines-more : (line : NamedAddress → List ℕ) (local : Bool) (segments : List (Option ℕ)) (left : List (Place × Rec)) (x : Place × Rec) (xs : List (Place × Rec)) → left ≡ x ∷ xs
    → flat_map line (listed_publics local segments left) ≡ flat_map line (publics_asked local segments x.1.kind x.1.contents) ++ flat_map line (listed_publics local segments xs)
lines-more line local segments left x xs e = ap (λ ys. flat_map line (listed_publics local segments ys)) e ∙ flat_map-append line (publics_asked local segments x.1.kind x.1.contents) (listed_publics local segments xs)
