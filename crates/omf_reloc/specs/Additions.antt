-- The numbers that a fixup adds at its location (TIS OMF 1.1, "FIXUPP", LOCATION; additions and self-relative values are this profile's
-- rule).
use Rattle.std.specs.Prelude.{ℕ, ◌+◌, ◌-◌, ◌%◌, ◌^◌, List, map, unwrap_or}
use Rattle.omf_records.specs.Location.{location_of, location, row_of}
use Rattle.omf_records.specs.declared.location.LocationType.{LocationType}
use Rattle.omf_records.specs.declared.location.LocationType.TheVariants.{Pointer32}
use Rattle.omf_image.specs.Parts.{Addition}

-- The type with a number. A valid FIXUP has a defined type; a number that is not defined counts as the largest type.
abbrev pub type_of_number : ℕ → LocationType
type_of_number t = unwrap_or (location_of t) Pointer32

-- The additions of a segment-relative fixup for an offset and a selector, one for each part of the location.
abbrev pub additions_at : LocationType → ℕ → ℕ → List Addition
additions_at t offset selector = map (λ p. record { offset = p.offset; size = p.size; value = p.value offset selector }) (location t).parts

-- From the byte after a location to an offset in the same frame, modulo 2^32.
abbrev pub distance : ℕ → ℕ → ℕ → ℕ
distance size offset location = (offset + 2 ^ 32 - (location + size) % 2 ^ 32) % 2 ^ 32

-- A self-relative fixup adds the distance in place of the offset. (A location with a selector is never self-relative.)
abbrev pub self_relative_additions : ℕ → ℕ → ℕ → List Addition
self_relative_additions t offset location = additions_at (type_of_number t) (distance ((row_of t).size) offset location) 0
