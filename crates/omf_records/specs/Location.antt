-- The types of locations (TIS OMF 1.1, "FIXUPP", LOCATION; the widths are this profile's rule).
use Rattle.std.specs.Prelude.{ℕ, List, [], ◌∷◌, ◌==◌, ◌/◌, ◌%◌, Bool, true, false, Option, find, unwrap_or}
use Rattle.omf_records.specs.declared.location.LocationType.{LocationType}
use Rattle.omf_records.specs.declared.location.LocationType.TheVariants.{LowByte, Offset16, Base, Pointer16, HighByte, LoaderOffset16, Offset32, Pointer32, LoaderOffset32}

-- A part of a location: its offset in it and its size in bytes, and the number that a segment-relative fixup adds there, of an offset and a
-- selector.
pub record LocationPart : Type 0 where
  pub offset : ℕ
  pub size : ℕ
  pub value : ℕ → ℕ → ℕ

abbrev pub low_part : LocationPart
low_part = record { offset = 0; size = 1; value = λ offset selector. offset % 256 }

abbrev pub high_part : LocationPart
high_part = record { offset = 0; size = 1; value = λ offset selector. offset / 256 }

abbrev pub offset_part : ℕ → LocationPart
offset_part n = record { offset = 0; size = n; value = λ offset selector. offset }

abbrev pub selector_part : ℕ → LocationPart
selector_part n = record { offset = n; size = 2; value = λ offset selector. selector }

-- A type of location: its number, its size in bytes, its parts, the bits of the offset in it, the bits of a self-relative offset, and whether
-- a self-relative fixup may have it.
pub record LocationRow : Type 0 where
  pub number : ℕ
  pub size : ℕ
  pub parts : List LocationPart
  pub offset_bits : ℕ
  pub self_relative_bits : ℕ
  pub may_be_self_relative : Bool

abbrev pub location_row : ℕ → ℕ → List LocationPart → ℕ → ℕ → Bool → LocationRow
location_row n s ps o r b = record { number = n; size = s; parts = ps; offset_bits = o; self_relative_bits = r; may_be_self_relative = b }

-- The table of location types. A short jump, of type 0, is computed in 32 bits.
abbrev pub location : LocationType → LocationRow
location LowByte = location_row 0 1 (low_part ∷ []) 16 32 true
location Offset16 = location_row 1 2 (offset_part 2 ∷ []) 16 16 true
location Base = location_row 2 2 (selector_part 0 ∷ []) 16 16 false
location Pointer16 = location_row 3 4 (offset_part 2 ∷ selector_part 2 ∷ []) 16 16 false
location HighByte = location_row 4 1 (high_part ∷ []) 16 16 false
location LoaderOffset16 = location_row 5 2 (offset_part 2 ∷ []) 16 16 true
location Offset32 = location_row 9 4 (offset_part 4 ∷ []) 32 32 true
location Pointer32 = location_row 11 6 (offset_part 4 ∷ selector_part 4 ∷ []) 32 32 false
location LoaderOffset32 = location_row 13 4 (offset_part 4 ∷ []) 32 32 true

-- All location types.
abbrev pub location_types : List LocationType
location_types = LowByte ∷ Offset16 ∷ Base ∷ Pointer16 ∷ HighByte ∷ LoaderOffset16 ∷ Offset32 ∷ Pointer32 ∷ LoaderOffset32 ∷ []

-- The type with a number, if it is defined.
abbrev pub location_of : ℕ → Option LocationType
location_of n = find (λ t. (location t).number == n) location_types

-- The row of a number. A valid FIXUP has a defined type; a number that is not defined counts as the largest type.
abbrev pub row_of : ℕ → LocationRow
row_of n = location (unwrap_or (location_of n) Pointer32)
