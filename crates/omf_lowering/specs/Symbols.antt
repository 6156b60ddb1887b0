-- The lines of a COMDAT: the LINNUM in place of a LINSYM (TIS OMF 1.1, "LINSYM": offsets are from the start of the COMDAT; "LINNUM").
use Rattle.std.specs.Prelude.{ℕ, ◌+◌, ◌%◌, Bool, List, ◌++◌, length, nat_le, Option, Some, None, Result, Ok, Err, if◌then◌else◌}
use Rattle.omf_frame.specs.Bytes.{is_one_of}
use Rattle.omf_frame.specs.Fault.{Fault}
use Rattle.omf_frame.specs.Fields.{index_bytes}
use Rattle.omf_frame.specs.Framing.{Raw, raw_of}
use Rattle.omf_frame.specs.Types.{row}
use Rattle.omf_frame.specs.declared.kinds.RecordType.TheVariants.{Linsym}
use Rattle.omf_records.specs.Values.{At}
-- computed: readings_meet_layouts of omf_records.
use Rattle.omf_records.specs.Inner.Reads.{and_then}
use Rattle.omf_check.specs.Tables.{entry}
use Rattle.omf_lowering.specs.Comdats.{instance_at, instance_of, text_by}
-- computed: readings_meet_layouts of omf_lowering.
use Rattle.omf_lowering.specs.Inner.Readers.{linsym_whole}
use Rattle.omf_lowering.specs.Layouts.{NamedLines}
use Rattle.omf_lowering.specs.Values.{Instance, Tables}

abbrev pub is_linsym : ℕ → Bool
is_linsym kind = is_one_of (row Linsym).bytes kind

-- The segment of the COMDAT before with this name.
abbrev pub segment_named : Tables → List Instance → At ℕ → Result ℕ Fault
segment_named t instances at = and_then (text_by at (entry t.names at.item)) (λ text. and_then (instance_at at (instance_of instances text)) (λ i. Ok i.segment))

-- The contents of a LINNUM with these lines of a segment, in no group.
abbrev pub line_bytes : ℕ → List ℕ → List ℕ
line_bytes segment lines = index_bytes 0 ++ (index_bytes segment ++ lines)

-- The contents of the LINNUM in place of a LINSYM. None if they are longer than a record's can be, if no COMDAT before has the name, or if the LINSYM cannot be read: it
-- stays then, as this profile carries it.
abbrev pub fitting : List ℕ → Option (List ℕ)
fitting body = if nat_le (length body) 65534 then Some body else None

abbrev pub lines_in : NamedLines → Result ℕ Fault → Option (List ℕ)
lines_in l (Ok segment) = fitting (line_bytes segment l.lines)
lines_in l (Err f) = None

abbrev pub lines_by : Tables → List Instance → Result NamedLines Fault → Option (List ℕ)
lines_by t instances (Ok l) = lines_in l (segment_named t instances l.name)
lines_by t instances (Err f) = None

abbrev pub lines_of : Tables → List Instance → Raw → Option (List ℕ)
lines_of t instances r = if is_linsym r.kind then lines_by t instances (linsym_whole.read 3 r.body) else None

-- A record with the LINNUM in its place, if it is such a LINSYM.
abbrev pub linnum_or : Raw → Option (List ℕ) → Raw
linnum_or r (Some body) = raw_of (0x94 + r.kind % 2) body
linnum_or r None = r

abbrev pub with_linnum : Tables → List Instance → Raw → Raw
with_linnum t instances r = linnum_or r (lines_of t instances r)
