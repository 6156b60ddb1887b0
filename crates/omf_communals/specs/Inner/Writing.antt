-- The records of a module with its communals, as the code writes them.
use Rattle.std.specs.Prelude.{ℕ, List, ◌++◌, flat_map, if◌then◌else◌}
use Rattle.std.specs.List.{list_any}
use Rattle.omf_frame.specs.Framing.{raw_bytes}
-- computed: readings_meet_layouts and contents_are_typed_once of omf_records.
use Rattle.omf_records.specs.Inner.Reading.{contents_or, read_body}
use Rattle.omf_records.specs.Values.{At, Contents, Externs, ExternalItem}
use Rattle.omf_communals.specs.Communals.{is_communal, is_extern, record_of, variables_in}
use Rattle.omf_communals.specs.declared.variable.Variable.{Variable}

-- The bytes of the records of these externals.
abbrev pub bytes_of_each : List Variable → ℕ → List (At ExternalItem) → List ℕ
bytes_of_each vs kind items = flat_map (λ e. raw_bytes (record_of vs kind e)) items

-- The bytes in place of those of a record.
abbrev pub bytes_by : List Variable → ℕ → List ℕ → Contents → List ℕ
bytes_by vs kind bytes (Externs items) = if list_any (is_communal vs) items then bytes_of_each vs kind items else bytes
bytes_by vs kind bytes _ = bytes

abbrev pub bytes_in_place : List Variable → ℕ → List ℕ → List ℕ → List ℕ
bytes_in_place vs kind body bytes = if is_extern kind then bytes_by vs kind bytes (contents_or body (read_body kind body)) else bytes

-- The records so far: the variables of their TYPDEFs, and the bytes of those in their place.
pub record SoFar : Type 0 where
  pub variables : List Variable
  pub bytes : List ℕ

abbrev pub with_bytes : SoFar → List ℕ → SoFar
with_bytes s bytes = record s { bytes = s.bytes ++ bytes }

-- After a record of this type with these contents and bytes.
abbrev pub so_far_after : SoFar → ℕ → List ℕ → List ℕ → SoFar
so_far_after s kind body bytes = record { variables = s.variables ++ variables_in kind body; bytes = s.bytes ++ bytes_in_place s.variables kind body bytes }
