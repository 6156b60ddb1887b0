-- Segments that are sure by their bytes, without any reference (this profile's rule).
use Rattle.std.specs.Prelude.{◌≡◌, ◌⊎◌, ℕ, zero, suc, ◌+◌, ◌<◌, ◌≤◌, ◌==◌, List, length, filter, min, Bool, false, not, Option, Some, None, IsSome, slice_get}
use Rattle.omf_check.specs.Module.{Module, recs_of}
use Rattle.omf_image.specs.Limits.{profile_limits}
use Rattle.omf_placement.specs.declared.frame.Placed.{Placed}
use Rattle.omf_finding.specs.Chain.{Draft, Stands, draft_at, enough, present_at}
use Rattle.omf_finding.specs.Finding.{IsAt, IsInside, IsSought}
use Rattle.omf_finding.specs.Fours.{AreAt, four_closed}
use Rattle.omf_finding.specs.Near.{AreClosed}
use Rattle.omf_finding.specs.Pattern.{pattern}
use Rattle.omf_finding.specs.Run.{closed_byte}
use Rattle.omf_finding.specs.declared.closed.ClosedByte.{ClosedByte}
use Rattle.omf_finding.specs.declared.findings.Found.{Found}
use Rattle.omf_finding.specs.declared.patterning.PatternByte.{PatternByte}
use Rattle.omf_finding.specs.declared.program.Program.{Program}

-- ---- bytes that vary

-- The closed byte before an offset.
abbrev pub closed_before : (ℕ → Option PatternByte) → ℕ → Option ℕ
closed_before byte zero = None
closed_before byte (suc x) = closed_byte (byte x)

abbrev pub is_value : Option ℕ → ℕ → Bool
is_value None own = false
is_value (Some value) own = value == own

-- A closed byte is not the same as a closed one before it.
abbrev pub is_fresh : (ℕ → Option PatternByte) → ClosedByte → Bool
is_fresh byte c = not (is_value (closed_before byte c.offset) c.value)

-- How many closed bytes of a segment differ from the one before: in a row of zeros one does.
abbrev pub varied : (ℕ → Option PatternByte) → List ClosedByte → ℕ
varied byte cs = length (filter (is_fresh byte) cs)

-- ---- rivals

-- A segment at an address has this one between its first and its last byte of data.
pub record Spans (byte : ℕ → Option PatternByte) (address at : ℕ) : Type 0 where
  pub first : ℕ
  pub last : ℕ
  pub first_is : IsSome (byte first)
  pub last_is : IsSome (byte last)
  pub from : address + first ≤ at
  pub to : at ≤ address + last

-- A segment agrees with the program at this address, and at no other one.
pub record IsOnlyAt (program : Program) (m : Module) (segment address : ℕ) : Type 0 where
  pub there : IsAt program m segment address
  pub only : (other : ℕ) → IsAt program m segment other → other ≡ address

-- A rival of a segment at its address: another one, which agrees with the program at one address only, with at least as many closed bytes, where the two overlap.
pub record IsRivaled (program : Program) (ms : List Module) (i : ℕ) (m : Module) (segment address count : ℕ) : Type 0 where
  pub number : ℕ
  pub other : Module
  pub other_is : slice_get ms number ≡ Some other
  pub own : ℕ
  pub apart : (number ≡ i) × (own ≡ segment) → ⊥
  pub place : ℕ
  pub alone : IsOnlyAt program other own place
  pub bytes : List ClosedByte
  pub closed : AreClosed (pattern profile_limits (recs_of other.bytes) own) bytes
  pub many : count ≤ length bytes
  pub at : ℕ
  pub here : Spans (pattern profile_limits (recs_of m.bytes) segment) address at
  pub there : Spans (pattern profile_limits (recs_of other.bytes) own) place at

-- ---- sure ones

-- A segment without a rival, which agrees with the program at its place and nowhere else, by enough closed bytes, of which at least 8, or all that are enough, differ
-- from the one before. No four of them in a row are at 64 places of the program. Each segment of the module that is searched for agrees somewhere.
pub record IsSureSegment (program : Program) (n : ℕ) (ms : List Module) (i : ℕ) (m : Module) (f : Found) (segment : ℕ) : Type 0 where
  pub place : Placed
  pub present : present_at f segment ≡ Some place
  pub sought : IsSought m segment
  pub alone : IsOnlyAt program m segment place.address
  pub rare : (x key : ℕ) → four_closed (pattern profile_limits (recs_of m.bytes) segment) x ≡ Some key → AreAt program.bytes.items key 64 → ⊥
  pub many : (bytes : List ClosedByte) → AreClosed (pattern profile_limits (recs_of m.bytes) segment) bytes → enough n (recs_of m.bytes) segment ≤ length bytes
  pub vary : (bytes : List ClosedByte) → AreClosed (pattern profile_limits (recs_of m.bytes) segment) bytes → min (enough n (recs_of m.bytes) segment) 8 ≤ varied (pattern profile_limits (recs_of m.bytes) segment) bytes
  pub unrivaled : (bytes : List ClosedByte) → AreClosed (pattern profile_limits (recs_of m.bytes) segment) bytes → IsRivaled program ms i m segment place.address (length bytes) → ⊥
  pub whole : (other : ℕ) → IsSought m other → (address : ℕ) × IsAt program m other address

-- A module with such a segment.
abbrev pub IsSureByBytes : Program → ℕ → List Module → ℕ → Module → Found → Type 0
IsSureByBytes program n ms i m f = (segment : ℕ) × IsSureSegment program n ms i m f segment

-- Of the modules in question, each one that is sure by its bytes is found: none of the others is.
abbrev pub AreSureFound : Program → ℕ → ℕ → List Module → List Draft → Type 0
AreSureFound program n most ms unreferenced = IsInside program → 1 < most → (i : ℕ) (m : Module) (f : Found) → Stands ms (draft_at unreferenced) i m f → IsSureByBytes program n ms i m f → ⊥
