-- The bytes of resolved references: the shortest encoding of those that name no thread.
use Rattle.omf_records.specs.Values.{Fixup}
use Rattle.std.specs.Prelude.{ℕ, List, ◌==◌}
use Rattle.omf_records.specs.Shortest.{subrecord_bytes}
use Rattle.omf_reloc.specs.Plain.{PlainFixup}
use Rattle.omf_canon.specs.Unthreaded.{unthreaded}

-- A fixup has no displacement exactly if it is 0 (this profile's rule).
abbrev pub fixup_bytes : ℕ → PlainFixup → List ℕ
fixup_bytes kind f = subrecord_bytes kind (Fixup f.locat (unthreaded (f.reference.displacement == 0) f.reference))
