-- What a program has at the location of a fixup, less what the module's data have there. Only private functions use these definitions.
use Rattle.std.specs.Prelude.{◌≡◌, ℕ, ◌+◌, ◌%◌, ◌^◌, ◌<◌, ◌==◌, List, [], ◌∷◌, drop, Bool, true, false, Option, Some, None, unwrap_or, if◌then◌else◌}
use Rattle.std.specs.Int.{from_le_bytes, w16, w32}
use Rattle.omf_records.specs.declared.location.LocationType.{LocationType}
use Rattle.omf_records.specs.declared.location.LocationType.TheVariants as kind
use Rattle.omf_records.specs.Location.{location}
use Rattle.omf_records.specs.Values.{location_offset, location_type}
use Rattle.omf_reloc.specs.Plain.{PlainFixup}
use Rattle.omf_finding.specs.Inner.Shaping.{bytes_from}
use Rattle.omf_finding.specs.declared.fixes.Fix.{Fix}
use Rattle.omf_finding.specs.declared.program.Program.{Program}

-- ---- numbers

abbrev pub two : List ℕ → Option ℕ
two (a ∷ b ∷ bytes) = Some (from_le_bytes w16 (a ∷ b ∷ []))
two _ = None

abbrev pub one : List ℕ → Option ℕ
one (a ∷ bytes) = Some a
one _ = None

abbrev pub four : List ℕ → Option ℕ
four (a ∷ b ∷ c ∷ d ∷ bytes) = Some (from_le_bytes w32 (a ∷ b ∷ c ∷ d ∷ []))
four _ = None

-- The little-endian number of this many bytes at the front: 1, 2 or 4.
abbrev pub little_number : ℕ → List ℕ → Option ℕ
little_number size bytes = if size == 1 then one bytes else if size == 2 then two bytes else if size == 4 then four bytes else None

-- The number that a program has at an address.
abbrev pub number_at : Program → ℕ → ℕ → Option ℕ
number_at program size address = little_number size (bytes_from program.bytes.items program.base address)

-- ---- locations (TIS OMF 1.1, "FIXUPP": the types of locations)

-- The bytes of a location before its selector, or all of them if it has none.
abbrev pub offset_size : LocationType → ℕ
offset_size kind.LowByte = 1
offset_size kind.HighByte = 1
offset_size kind.Offset16 = 2
offset_size kind.LoaderOffset16 = 2
offset_size kind.Pointer16 = 2
offset_size kind.Offset32 = 4
offset_size kind.LoaderOffset32 = 4
offset_size kind.Pointer32 = 4
offset_size kind.Base = 0

abbrev pub has_selector : LocationType → Bool
has_selector kind.Base = true
has_selector kind.Pointer16 = true
has_selector kind.Pointer32 = true
has_selector _ = false

-- The address of a location, and of its selector, where its segment is at this address; modulo 2^32.
abbrev pub location_at : Fix → ℕ → ℕ
location_at f segment = (segment + f.location) % 2 ^ 32

abbrev pub after : Fix → ℕ → ℕ
after f segment = (location_at f segment + offset_size f.kind) % 2 ^ 32

-- ---- what is added

abbrev pub modulus : ℕ → ℕ
modulus size = if size == 1 then 2 ^ 8 else if size == 2 then 2 ^ 16 else 2 ^ 32

-- A value, added to what the data have at a location, gives what the program has there.
pub record IsAdded (m own value there : ℕ) : Type 0 where
  pub below : value < m
  pub sum : (value + own) % m ≡ there % m

-- The same of the number that a program has at an address.
abbrev pub IsAddedThere : Program → ℕ → ℕ → ℕ → ℕ → Type 0
IsAddedThere program size address own value = (there : ℕ) × (number_at program size address ≡ Some there) × IsAdded (modulus size) own value there

-- The same of a distance, which has 32 bits.
abbrev pub IsDistance : Program → ℕ → ℕ → ℕ → ℕ → Type 0
IsDistance program size address own value = (there : ℕ) × (number_at program size address ≡ Some there) × ((value + own) % modulus size ≡ there % modulus size)

-- What a fixup's data have at its location, and where its selector is.
pub record IsOwn (f : PlainFixup) (bytes : List ℕ) (x : Fix) : Type 0 where
  pub kind : (location x.kind).number ≡ location_type f.locat
  pub own : x.own ≡ unwrap_or (little_number (offset_size x.kind) (drop (location_offset f.locat) bytes)) 0
  pub own_selector : x.own_selector ≡ unwrap_or (little_number 2 (drop (offset_size x.kind) (drop (location_offset f.locat) bytes))) 0
