-- Definitions for the worked examples of LIDATAs with fixups.
use Rattle.std.specs.Prelude.{◌≡◌, ℕ, List, [], ◌++◌, flat_map, Option, Some, None, Result, Ok, Err, codes}
use Rattle.omf_frame.specs.Fault.{Fault}
use Rattle.omf_frame.specs.Framing.{Raw, raw_bytes}
use Rattle.omf_frame.specs.Rows.{hex}
use Rattle.omf_frame.specs.declared.fault.Reason.{Reason}
use Rattle.omf_check.specs.Module.{records_in}
use Rattle.omf_check.specs.Rows.{H, N}
use Rattle.omf_records.specs.Layout.{fault}
use Rattle.omf_lowering.specs.Unrolled.{Before, after_records}

abbrev pub records_or_none : Result Before Fault → List Raw
records_or_none (Ok b) = b.records
records_or_none (Err e) = []

abbrev pub fault_or_none : Result Before Fault → Option Fault
fault_or_none (Ok b) = None
fault_or_none (Err e) = Some e

-- The bytes of the records, unrolled.
abbrev pub unrolls : List ℕ → List ℕ
unrolls bytes = flat_map raw_bytes (records_or_none (after_records (records_in bytes)))

-- The last of the records is refused for this reason at this place in it.
abbrev pub Stops : List ℕ → ℕ → Reason → Type 0
Stops bytes within why = fault_or_none (after_records (records_in bytes)) ≡ Some (fault within why)

-- a segment T of 64 bytes
abbrev pub segment : List ℕ
segment = hex (codes "98 07 00 28 40 00 02 01 01 F5")

-- two zeros at offset 4, three times
abbrev pub words : List ℕ
words = hex (codes "A2 0B 00 01 04 00 03 00 00 00 02 00 00 49")

-- a fixup of the word of each
abbrev pub of_words : List ℕ
of_words = hex (codes "9C 06 00 C4 05 04 01 01 8F")

-- at offset 0, twice: 11 once and 22 33 twice
abbrev pub nested : List ℕ
nested = hex (codes "A2 15 00 01 00 00 02 00 02 00 01 00 00 00 01 11 02 00 00 00 02 22 33 D8")

-- AA BB CC DD twice at offset 10000H, with repeat counts of 32 bits
abbrev pub wide : List ℕ
wide = hex (codes "A3 11 00 01 00 00 01 00 02 00 00 00 00 00 04 AA BB CC DD 36")

-- a header, the names "" and T, and the segment
abbrev pub before : List ℕ
before = H ++ N ++ segment
