-- How an image is compared with a program. Only private functions use these definitions.
use Rattle.std.specs.Prelude.{◌≡◌, ◌<◌, ℕ, ◌+◌, ◌-◌, List, drop, Bool, ◌&&◌, nat_le, ◌==◌, false, Some, IsSome, slice_get}
use Rattle.std.specs.List.{starts_with}
use Rattle.omf_frame.specs.Bytes.{is_one_of}
use Rattle.omf_image.specs.Overlay.{Laid, byte_at}
use Rattle.omf_placement.specs.declared.frame.Placed.{Placed}
use Rattle.omf_finding.specs.Found.{program_byte}

-- Bytes are those of a program from an address on.
abbrev pub lies_in : List ℕ → ℕ → ℕ → List ℕ → Bool
lies_in program base address bytes = nat_le base address && starts_with (λ a b. a == b) (drop (address - base) program) bytes

-- Each byte of a segment that is at an address is the program's.
abbrev pub SegmentAgrees : List Laid → ℕ → ℕ → List ℕ → ℕ → Type 0
SegmentAgrees image segment address program base = (x b : ℕ) → byte_at image segment x ≡ Some b → program_byte program base (address + x) ≡ Some b

-- The same of the first n segments, but for those that are absent.
abbrev pub FirstAgree : List Laid → List Placed → List ℕ → List ℕ → ℕ → ℕ → Type 0
FirstAgree image places absent program base n = (k : ℕ) (place : Placed) → k < n → slice_get places k ≡ Some place → is_one_of absent (k + 1) ≡ false → SegmentAgrees image (k + 1) place.address program base

-- An image has a byte of a segment.
pub record HasByte (image : List Laid) (segment : ℕ) : Type 0 where
  pub x : ℕ
  pub byte : IsSome (byte_at image segment x)

-- An image has a byte of one of the first n segments that is not absent.
pub record ComparedBelow (image : List Laid) (absent : List ℕ) (n : ℕ) : Type 0 where
  pub k : ℕ
  pub low : k < n
  pub compared : is_one_of absent (k + 1) ≡ false
  pub has : HasByte image (k + 1)

-- An image has a byte of a segment that is not absent.
pub record SomeCompared (image : List Laid) (absent : List ℕ) : Type 0 where
  pub segment : ℕ
  pub compared : is_one_of absent segment ≡ false
  pub has : HasByte image segment
