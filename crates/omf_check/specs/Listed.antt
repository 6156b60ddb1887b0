-- The records of a checked module, in order.
use Rattle.std.specs.Prelude.{◌≡◌, ◌≤◌, ◌^◌, ℕ, ◌+◌, List, [], ◌∷◌, ◌++◌, length, flat_map, All, IsTrue}
use Rattle.omf_frame.specs.Framing.{Raw, raw_bytes, IsRecord, is_taken}
use Rattle.omf_frame.specs.declared.fault.Place.{Place}
-- computed: readings_meet_layouts and contents_are_typed_once of omf_records.
use Rattle.omf_records.specs.Inner.Reading.{typed}
use Rattle.omf_records.specs.Records.{IsTyped}
use Rattle.omf_records.specs.Values.{Rec}

-- Records with their places: the first has this number and starts at this offset.
abbrev pub placed_from : ℕ → ℕ → List Raw → List (Place × Rec)
placed_from number start [] = []
placed_from number start (r ∷ rs) = (record { number = number; start = start; within = 0 }, typed r) ∷ placed_from (number + 1) (start + length (raw_bytes r)) rs

-- A record of a known type, whose contents spell a typed record.
pub record IsReadable (r : Raw) : Type 0 where
  pub is_record : IsRecord r
  pub taken : IsTrue (is_taken r.kind)
  pub typed : IsTyped (typed r) r.body

-- The bytes begin with a readable record.
pub record StartsWithRecord (bytes : List ℕ) : Type 0 where
  pub first : Raw
  pub rest : List ℕ
  pub spelled : bytes ≡ raw_bytes first ++ rest
  pub readable : IsReadable first

-- The bytes are readable records; the first has this number and starts at this offset.
pub record AreListed (bytes : List ℕ) (number start : ℕ) : Type 0 where
  pub records : List Raw
  pub spelled : bytes ≡ flat_map raw_bytes records
  pub readable : All IsReadable records
  pub few : number + length records ≤ 1048576
  pub short : start + length bytes ≤ 2 ^ 40
