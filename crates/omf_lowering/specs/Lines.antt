-- The lines of a LINNUM (TIS OMF 1.1, "LINNUM"), whose contents no rule of this profile looks at.
use Rattle.std.specs.Prelude.{ℕ, Bool, List, length, nat_le, Option, Some, None, Result, Ok, Err, if◌then◌else◌}
use Rattle.omf_frame.specs.Bytes.{is_one_of}
use Rattle.omf_frame.specs.Fault.{Fault}
use Rattle.omf_frame.specs.Types.{row}
use Rattle.omf_frame.specs.declared.kinds.RecordType.TheVariants.{Linnum}
use Rattle.omf_records.specs.Values.{Carried, Contents, is_wide}
-- computed: readings_meet_layouts of omf_lowering.
use Rattle.omf_lowering.specs.Inner.Readers.{linnum_whole}
use Rattle.omf_lowering.specs.Layouts.{LineNumbers}

abbrev pub is_linnum : ℕ → Bool
is_linnum kind = is_one_of (row Linnum).bytes kind

-- What is read, if it has no fault.
abbrev pub value_of : {A : Type 0} → Result A Fault → Option A
value_of (Ok x) = Some x
value_of (Err e) = None

-- The lines of a LINNUM of a type and with these contents; none if they have a fault, or are longer than a record's can be.
abbrev pub read_lines : ℕ → List ℕ → Option LineNumbers
read_lines kind body = if nat_le (length body) 65534 then value_of ((linnum_whole (is_wide kind)).read 3 body) else None

abbrev pub carried_lines : ℕ → Contents → Option LineNumbers
carried_lines kind (Carried body) = read_lines kind body
carried_lines kind _ = None

-- The lines of a record.
abbrev pub lines_of : ℕ → Contents → Option LineNumbers
lines_of kind c = if is_linnum kind then carried_lines kind c else None
