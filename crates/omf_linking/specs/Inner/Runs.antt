-- Runs of a segment as stretches (the steps of the code).
use Rattle.std.specs.Prelude.{◌≡◌, ⊤, Result, Ok, Err, ℕ, ◌+◌, ◌<◌, ◌^◌, List, [], ◌∷◌, ◌++◌, All, length, Option, Some, None}
use Rattle.omf_image.specs.Overlay.{Laid}
use Rattle.omf_linking.specs.declared.space.fault.MemoryFault.{MemoryFault}
use Rattle.omf_linking.specs.declared.space.fault.MemoryFault.TheVariants as fault
use Rattle.omf_linking.specs.declared.space.stretch.Owner.{Owner}
use Rattle.omf_linking.specs.declared.space.stretch.Stretch.{Stretch}
use Rattle.omf_linking.specs.Space.Memory.{Piece, piece, pieces, Lies, shares}
use Rattle.omf_linking.specs.Space.Segments.{SegmentAt, segment_shares, IsWithin, IsBeyond, IsFirstBeyond, IsMemoryOf}

-- Bytes of a segment from an offset on as a stretch; or they reach beyond the last address.
abbrev pub run_piece : SegmentAt → ℕ → List ℕ → Piece
run_piece s first bytes = record { owner = s.owner; common = s.common; address = s.address + first; bytes = bytes }

abbrev pub IsStretchAt : SegmentAt → ℕ → List ℕ → Result Stretch MemoryFault → Type 0
IsStretchAt s first bytes (Ok t) = (piece t ≡ run_piece s first bytes) × Lies t
IsStretchAt s first bytes (Err (fault.Beyond o)) = (o ≡ s.owner) × (2 ^ 32 < s.address + first + length bytes)
IsStretchAt s first bytes (Err _) = ⊥

-- Stretches have at each address what others have, and then what a segment has.
abbrev pub HasMore : List Stretch → SegmentAt → List Stretch → Type 0
HasMore old s new = (a : ℕ) → shares (pieces new) a ≡ shares (pieces old) a ++ segment_shares (s ∷ []) a

-- A segment was added: all its bytes are within memory; or one is not.
abbrev pub IsAdded : SegmentAt → Result (Unit {0}) MemoryFault → Type 0
IsAdded s (Ok done) = IsWithin s
IsAdded s (Err fault.Memory) = ⊤
IsAdded s (Err (fault.Beyond o)) = IsBeyond s × (s.owner ≡ o)
IsAdded s (Err (fault.Overlap a first second)) = ⊥

-- Stretches have at each address what the segments have there; or the first segment with a byte beyond the last address.
abbrev pub AreStretches : List SegmentAt → Result (List Stretch) MemoryFault → Type 0
AreStretches ss (Ok ts) = All IsWithin ss × ((a : ℕ) → shares (pieces ts) a ≡ segment_shares ss a)
AreStretches ss (Err fault.Memory) = ⊤
AreStretches ss (Err (fault.Beyond o)) = IsFirstBeyond ss o
AreStretches ss (Err (fault.Overlap a first second)) = ⊥

-- All bytes of segments have addresses; or this is the owner of the first that has one beyond the last address.
abbrev pub IsFoundBeyond : List SegmentAt → Option Owner → Type 0
IsFoundBeyond ss None = All IsWithin ss
IsFoundBeyond ss (Some o) = IsFirstBeyond ss o

-- The memory of segments, where running out of memory may hide a fault.
abbrev pub IsTried : List SegmentAt → Result (List Laid) MemoryFault → Type 0
IsTried ss (Ok image) = IsMemoryOf ss (Ok image)
IsTried ss (Err fault.Memory) = ⊤
IsTried ss (Err f) = IsMemoryOf ss (Err f)
