-- The memory of several segments (this profile's rule).
use Rattle.std.specs.Prelude.{◌≡◌, Result, Ok, Err, ◌+◌, ◌-◌, ◌<◌, ◌≤◌, ◌^◌, ℕ, List, [], ◌∷◌, length, map, filter_map, find, Bool, not, ◌&&◌, nat_le, Option, Some, None, IsSome, IsNone, option_map, slice_get, if◌then◌else◌}
use Rattle.omf_frame.specs.Bytes.{last}
use Rattle.omf_image.specs.Overlay.{Laid, byte_at}
use Rattle.omf_linking.specs.declared.space.fault.MemoryFault.{MemoryFault}
use Rattle.omf_linking.specs.declared.space.fault.MemoryFault.TheVariants as fault
use Rattle.omf_linking.specs.declared.space.stretch.Owner.{Owner}
use Rattle.omf_linking.specs.declared.space.stretch.Stretch.{Stretch}

-- Bytes of a segment, and the address of the first of them. Common segments (C = 6, TIS OMF 1.1, "SEGDEF") may overlap.
pub record Piece : Type 0 where
  pub owner : Owner
  pub common : Bool
  pub address : ℕ
  pub bytes : List ℕ

abbrev pub piece : Stretch → Piece
piece s = record { owner = s.owner; common = s.common; address = s.address; bytes = s.bytes.now }

abbrev pub pieces : List Stretch → List Piece
pieces ss = map piece ss

-- Its bytes have 32-bit addresses, and there is at least one.
abbrev pub Lies : Stretch → Type 0
Lies s = (0 < length s.bytes.now) × (s.address + length s.bytes.now ≤ 2 ^ 32)

-- A segment's byte at an address.
pub record Share : Type 0 where
  pub owner : Owner
  pub common : Bool
  pub byte : ℕ

-- A piece's byte at an address.
abbrev pub share_of : ℕ → Piece → Option Share
share_of a p = if nat_le p.address a then option_map (λ b. record { owner = p.owner; common = p.common; byte = b }) (slice_get p.bytes (a - p.address)) else None

-- The bytes of pieces at an address, in order.
abbrev pub shares : List Piece → ℕ → List Share
shares ps a = filter_map (share_of a) ps

-- Two segments may not both have a byte at an address, unless both are common.
abbrev pub excludes : Share → Share → Bool
excludes s t = not (s.common && t.common)

-- The first two segments with a byte at one address that may not share it. If any two may not, the first of all may not share it with some other.
abbrev pub overlap : List Share → Option (Owner × Owner)
overlap [] = None
overlap (s ∷ ss) = option_map (λ t. (s.owner, t.owner)) (find (excludes s) ss)

-- The first address at which two segments overlap, or there is none.
abbrev pub IsFirstOverlap : (ℕ → List Share) → Option ℕ → Type 0
IsFirstOverlap at None = (a : ℕ) → IsNone (overlap (at a))
IsFirstOverlap at (Some x) = IsSome (overlap (at x)) × ((a : ℕ) → a < x → IsNone (overlap (at a)))

-- The byte at an address: that of the one segment with a byte there; of common ones, which may overlap, that of the last.
abbrev pub memory_byte : List Share → Option ℕ
memory_byte ss = option_map (λ s. s.byte) (last ss)

-- An image has bytes in segment 0 only.
abbrev pub HasNoOther : List Laid → Type 0
HasNoOther image = (segment a : ℕ) → 0 < segment → byte_at image segment a ≡ None

-- The memory of these bytes at each address, as segment 0 of an image without other segments; or the first address at which two segments overlap, and which
-- two. Memory is returned only if no two overlap.
abbrev pub IsMemory : (ℕ → List Share) → Result (List Laid) MemoryFault → Type 0
IsMemory at (Ok image) = ((a : ℕ) → IsNone (overlap (at a))) × ((a : ℕ) → byte_at image 0 a ≡ memory_byte (at a)) × HasNoOther image
IsMemory at (Err fault.Memory) = (a : ℕ) → IsNone (overlap (at a))
IsMemory at (Err (fault.Beyond o)) = ⊥
IsMemory at (Err (fault.Overlap a s t)) = (overlap (at a) ≡ Some (s, t)) × ((b : ℕ) → b < a → IsNone (overlap (at b)))
