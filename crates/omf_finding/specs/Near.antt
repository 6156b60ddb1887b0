-- Segments that are nearly in a program: a few of their closed bytes are other ones there.
use Rattle.std.specs.Prelude.{◌≡◌, ◌⊎◌, ◌<◌, ◌≤◌, ◌+◌, ◌==◌, ℕ, List, [], Contains, filter_map, length, Bool, true, not, Option, Some, None, slice_get, if◌then◌else◌}
use Rattle.std.specs.Global.{Vec}
use Rattle.omf_check.specs.Module.{Module, recs_of}
use Rattle.omf_image.specs.Limits.{profile_limits}
use Rattle.omf_finding.specs.Finding.{IsInside}
use Rattle.omf_finding.specs.Found.{program_byte}
use Rattle.omf_finding.specs.Fours.{AreAt, four_at, four_closed}
use Rattle.omf_finding.specs.Pattern.{pattern}
use Rattle.omf_finding.specs.Run.{closed_byte}
use Rattle.omf_finding.specs.declared.closed.ClosedByte.{ClosedByte}
use Rattle.omf_finding.specs.declared.nearing.Difference.{Difference}
use Rattle.omf_finding.specs.declared.nearing.Near.{Near}
use Rattle.omf_finding.specs.declared.patterning.PatternByte.{PatternByte}
use Rattle.omf_finding.specs.declared.program.Program.{Program}

-- ---- differences

-- All closed bytes of a segment, in ascending order of offset.
pub record AreClosed (byte : ℕ → Option PatternByte) (cs : List ClosedByte) : Type 0 where
  pub each : (c : ClosedByte) → Contains cs c → closed_byte (byte c.offset) ≡ Some c.value
  pub every : (x b : ℕ) → closed_byte (byte x) ≡ Some b → Contains cs (record { offset = x; value = b })
  pub rising : (i j : ℕ) (c d : ClosedByte) → i < j → slice_get cs i ≡ Some c → slice_get cs j ≡ Some d → c.offset < d.offset

-- A program has another byte at a place, or none.
abbrev pub is_other : Option ℕ → ℕ → Bool
is_other None own = true
is_other (Some there) own = not (there == own)

-- The difference at a closed byte of a segment at an address, if the program has another byte there.
abbrev pub differing : List ℕ → ℕ → ℕ → ClosedByte → Option Difference
differing program base address c =
    let there = program_byte program base (address + c.offset) in
    if is_other there c.value then Some (record { offset = c.offset; own = c.value; there = there }) else None

-- The differences of a segment with these closed bytes at an address.
abbrev pub differences : List ℕ → ℕ → ℕ → List ClosedByte → List Difference
differences program base address cs = filter_map (differing program base address) cs

-- ---- places

-- A segment is tried at an address (this profile's rule): four closed bytes in a row, from offset x on, are the program's there, and are not at
-- 64 places of it.
pub record IsTried (byte : ℕ → Option PatternByte) (program : List ℕ) (base address : ℕ) : Type 0 where
  pub x : ℕ
  pub at : ℕ
  pub key : ℕ
  pub closed : four_closed byte x ≡ Some key
  pub there : four_at program at ≡ Some key
  pub place : address + x ≡ base + at
  pub rare : AreAt program key 64 → ⊥

-- ---- what is near

-- A segment at a place where at least one and at most this many of its closed bytes differ, and at no place that is tried fewer.
pub record IsNear (byte : ℕ → Option PatternByte) (program : Program) (most : ℕ) (n : Near) : Type 0 where
  pub bytes : List ClosedByte
  pub closed : AreClosed byte bytes
  pub count : n.closed ≡ length bytes
  pub differ : n.differences.items ≡ differences program.bytes.items program.base n.address bytes
  pub some : 0 < length n.differences.items
  pub few : length n.differences.items ≤ most
  pub fewest : IsInside program → (address : ℕ) → IsTried byte program.bytes.items program.base address → length n.differences.items ≤ length (differences program.bytes.items program.base address bytes)

-- More than this many of the closed bytes of a segment differ at an address.
pub record IsFar (byte : ℕ → Option PatternByte) (program : Program) (most address : ℕ) : Type 0 where
  pub bytes : List ClosedByte
  pub closed : AreClosed byte bytes
  pub many : most < length (differences program.bytes.items program.base address bytes)

-- None of the closed bytes of a segment differs at some address.
pub record IsSame (byte : ℕ → Option PatternByte) (program : Program) : Type 0 where
  pub bytes : List ClosedByte
  pub closed : AreClosed byte bytes
  pub address : ℕ
  pub same : differences program.bytes.items program.base address bytes ≡ []

-- A segment is among these.
abbrev pub IsAmong : List Near → ℕ → Type 0
IsAmong ns segment = (n : Near) × Contains ns n × (n.segment ≡ segment)

-- The segments of a module that are nearly in a program. Each one that is tried at an address is among them, but where more of its closed bytes
-- differ, or if none differs at some address.
pub record AreNear (program : Program) (most : ℕ) (m : Module) (ns : List Near) : Type 0 where
  pub each : (n : Near) → Contains ns n → IsNear (pattern profile_limits (recs_of m.bytes) n.segment) program most n
  pub every : IsInside program → (segment address : ℕ) → IsTried (pattern profile_limits (recs_of m.bytes) segment) program.bytes.items program.base address
      → IsAmong ns segment ⊎ (IsSame (pattern profile_limits (recs_of m.bytes) segment) program ⊎ IsFar (pattern profile_limits (recs_of m.bytes) segment) program most address)

abbrev pub HasNear : Program → ℕ → Module → Vec Near → Type 0
HasNear program most m ns = AreNear program most m ns.items
