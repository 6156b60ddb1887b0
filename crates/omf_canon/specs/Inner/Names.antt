-- Names for parts of definitions, used in proofs and in contracts of private functions.

use Rattle.std.specs.Prelude.{List, ℕ, flat_map, Option, option_map, false, ◌*◌, ◌+◌, Bool, ◌==◌, if◌then◌else◌}
use Rattle.omf_reloc.specs.Plain.{Piece, PlainFixup}
use Rattle.omf_frame.specs.Framing.{raw_bytes}
use Rattle.omf_canon.specs.Canonical.{canonical_raws}
use Rattle.omf_reloc.specs.Reach.{reach_fault}
use Rattle.omf_placement.specs.Placement.{Places}
use Rattle.omf_reloc.specs.declared.fault.ReachFault.{ReachFault}
use Rattle.omf_records.specs.Values.{Rec, Fixup, Subrecord}
use Rattle.omf_canon.specs.Laws.{placeless}
use Rattle.omf_check.specs.Threads.{PlainReference}
use Rattle.omf_records.specs.Shortest.{option_bytes, reference_bytes}
use Rattle.omf_canon.specs.Unthreaded.{unthreaded, code_of}
use Rattle.omf_frame.specs.Bytes.{bits}
use Rattle.omf_records.specs.Methods.{frame_number, kind_number}
use Rattle.omf_check.specs.declared.method.TargetMethod.{TargetMethod}
use Rattle.omf_check.specs.declared.method.FrameMethod.{FrameMethod}

abbrev pub canonical_bytes : List Piece → List ℕ
canonical_bytes ps = flat_map raw_bytes (canonical_raws ps)

abbrev pub reach_answer : Places → List Rec → Option ReachFault
reach_answer pl m = option_map placeless (reach_fault pl m)

-- A start always has its displacement, even if it is 0 (this profile's rule).
abbrev pub start_bytes : ℕ → Option PlainReference → List ℕ
start_bytes kind start = option_bytes (reference_bytes kind) (option_map (unthreaded false) start)

-- MODEND's module type byte, normalized (TIS OMF 1.1, "MODEND"): bits 7 and 6 are kept, bit 0 is a copy of bit 6, and the ignored bits are
-- 0 (this profile's rule).
abbrev pub end_byte : ℕ → ℕ
end_byte byte = 128 * bits byte 7 1 + 64 * bits byte 6 1 + bits byte 6 1

-- The fix data byte: bits 7 and 3 are clear (no thread), bits 6-4 are the frame's method, bits 1-0 are the target's method, and bit 2 is
-- set if no displacement follows.
abbrev pub fix_byte : Bool → FrameMethod → TargetMethod → ℕ
fix_byte short frame target = 16 * frame_number (code_of frame) + kind_number target.kind + (if short then 4 else 0)

-- A fixup is short, that is, without a displacement, exactly if its displacement is 0 (this profile's rule).
abbrev pub unthreaded_fixup : PlainFixup → Subrecord
unthreaded_fixup f = Fixup f.locat (unthreaded (f.reference.displacement == 0) f.reference)
