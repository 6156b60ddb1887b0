-- The rows of a module's records (TIS OMF 1.1, "Object record format"; their form is this profile's rule).
use Rattle.std.specs.Prelude.{ℕ, ◌+◌, List, [], ◌∷◌, length}
use Rattle.omf_frame.specs.Framing.{Raw, raw_bytes}
use Rattle.omf_c.specs.declared.rows.RecordRow.{RecordRow}

-- A record with this number, whose type byte is at this offset of the module.
abbrev pub record_row : ℕ → ℕ → Raw → RecordRow
record_row number start r = record { bytes = record { offset = start; size = length (raw_bytes r) }; type_byte = r.kind; number = number }

-- Each record begins where the one before it ends.
abbrev pub record_rows_from : ℕ → ℕ → List Raw → List RecordRow
record_rows_from number start [] = []
record_rows_from number start (r ∷ rs) = record_row number start r ∷ record_rows_from (number + 1) (start + length (raw_bytes r)) rs

abbrev pub record_rows : List Raw → List RecordRow
record_rows records = record_rows_from 0 0 records
