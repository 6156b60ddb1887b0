-- Where a segment of a module may be in a program: so far as its bytes are known before it is placed (TIS OMF 1.1, "FIXUPP": a fixup changes
-- its location and nothing else).
use Rattle.std.specs.Prelude.{◌≡◌, ◌<◌, ◌+◌, ℕ, List, Option, Some, IsSome}
use Rattle.omf_finding.specs.Found.{program_byte}
use Rattle.omf_finding.specs.Run.{closed_byte}
use Rattle.omf_finding.specs.declared.patterning.PatternByte.{PatternByte}

-- A segment with this pattern agrees with a program at an address: each byte of its data is at an address of the program, and each closed one
-- is the program's byte there.
pub record Agrees (byte : ℕ → Option PatternByte) (program : List ℕ) (base address : ℕ) : Type 0 where
  pub inside : (x : ℕ) → IsSome (byte x) → IsSome (program_byte program base (address + x))
  pub closed : (x b : ℕ) → closed_byte (byte x) ≡ Some b → program_byte program base (address + x) ≡ Some b

-- Four closed bytes of the segment are in a row, from offset x on.
pub record HasFour (byte : ℕ → Option PatternByte) : Type 0 where
  pub x : ℕ
  pub each : (i : ℕ) → i < 4 → IsSome (closed_byte (byte (x + i)))
