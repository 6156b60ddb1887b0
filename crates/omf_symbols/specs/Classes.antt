-- Segments of code (this profile's rule): the names of their classes end in CODE, as in compilers' modules.
use Rattle.std.specs.Prelude.{ℕ, List, Bool, false, Option, Some, None}
use Rattle.omf_check.specs.Classes.{is_code_name}
use Rattle.omf_check.specs.Tables.{entry, names, segments}
use Rattle.omf_check.specs.declared.segment.SegInfo.{SegInfo}
use Rattle.omf_records.specs.Values.{Rec}

abbrev pub is_code_segment : List Rec → Option SegInfo → Bool
is_code_segment m None = false
is_code_segment m (Some s) = is_code_name (entry (names m) s.class)

-- A segment of a module by its index is of such a class. Index 0 is no segment.
abbrev pub is_code : List Rec → ℕ → Bool
is_code m segment = is_code_segment m (entry (segments m) segment)
