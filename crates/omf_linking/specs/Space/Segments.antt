-- The memory of segments at addresses (this profile's rule).
use Rattle.std.specs.Prelude.{◌≡◌, Result, Ok, Err, ℕ, ◌+◌, ◌-◌, ◌<◌, ◌≤◌, ◌^◌, List, ◌∷◌, ◌++◌, All, map, filter_map, Bool, nat_le, Option, Some, None, IsSome, IsNone, option_map, if◌then◌else◌}
use Rattle.omf_image.specs.Overlay.{Laid, byte_at}
use Rattle.omf_linking.specs.declared.space.fault.MemoryFault.{MemoryFault}
use Rattle.omf_linking.specs.declared.space.fault.MemoryFault.TheVariants as fault
use Rattle.omf_linking.specs.declared.space.segment.PlacedSegment.{PlacedSegment}
use Rattle.omf_linking.specs.declared.space.stretch.Owner.{Owner}
use Rattle.omf_linking.specs.Space.Memory.{HasNoOther, Share, overlap, memory_byte}

-- A segment at an address, with its byte, if any, at each offset.
pub record SegmentAt : Type 0 where
  pub owner : Owner
  pub common : Bool
  pub address : ℕ
  pub byte : ℕ → Option ℕ

abbrev pub segment_at : PlacedSegment → SegmentAt
segment_at s = record { owner = s.owner; common = s.common; address = s.address; byte = byte_at s.image.now s.owner.segment }

abbrev pub segments_at : List PlacedSegment → List SegmentAt
segments_at ss = map segment_at ss

-- A segment's byte at an address of memory: the byte at the address's offset in it.
abbrev pub share_in : ℕ → SegmentAt → Option Share
share_in a s = if nat_le s.address a then option_map (λ b. record { owner = s.owner; common = s.common; byte = b }) (s.byte (a - s.address)) else None

-- The bytes of segments at an address, in order.
abbrev pub segment_shares : List SegmentAt → ℕ → List Share
segment_shares ss a = filter_map (share_in a) ss

-- Each byte has a 32-bit address; or one is beyond the last address.
abbrev pub IsWithin : SegmentAt → Type 0
IsWithin s = (x : ℕ) → IsSome (s.byte x) → s.address + x < 2 ^ 32

abbrev pub IsBeyond : SegmentAt → Type 0
IsBeyond s = (x : ℕ) × IsSome (s.byte x) × (2 ^ 32 ≤ s.address + x)

-- The first segment with a byte beyond the last address has this owner.
pub record IsFirstBeyond (segments : List SegmentAt) (owner : Owner) : Type 0 where
  pub before : List SegmentAt
  pub segment : SegmentAt
  pub after : List SegmentAt
  pub listed : segments ≡ before ++ segment ∷ after
  pub within : All IsWithin before
  pub beyond : IsBeyond segment
  pub owned : segment.owner ≡ owner

-- No byte is beyond the last address, and no two segments overlap: the byte at each address is that of the one segment with a byte there, of common ones the
-- last.
pub record AreLaid (segments : List SegmentAt) (image : List Laid) : Type 0 where
  pub within : All IsWithin segments
  pub apart : (a : ℕ) → IsNone (overlap (segment_shares segments a))
  pub bytes : (a : ℕ) → byte_at image 0 a ≡ memory_byte (segment_shares segments a)
  pub no_other : HasNoOther image

-- No byte is beyond the last address, and this is the first address at which two segments overlap, and which two.
pub record DoOverlap (segments : List SegmentAt) (address : ℕ) (first second : Owner) : Type 0 where
  pub within : All IsWithin segments
  pub here : overlap (segment_shares segments address) ≡ Some (first, second)
  pub before : (a : ℕ) → a < address → IsNone (overlap (segment_shares segments a))

-- All bytes have 32-bit addresses, and no two segments overlap.
abbrev pub LieWell : List SegmentAt → Type 0
LieWell ss = All IsWithin ss × ((a : ℕ) → IsNone (overlap (segment_shares ss a)))

-- The memory of segments, as segment 0 of an image; or the first segment with a byte beyond the last address; or else the first overlap. Memory is returned only
-- if there is no such fault.
abbrev pub IsMemoryOf : List SegmentAt → Result (List Laid) MemoryFault → Type 0
IsMemoryOf ss (Ok image) = AreLaid ss image
IsMemoryOf ss (Err fault.Memory) = LieWell ss
IsMemoryOf ss (Err (fault.Beyond o)) = IsFirstBeyond ss o
IsMemoryOf ss (Err (fault.Overlap a s t)) = DoOverlap ss a s t
