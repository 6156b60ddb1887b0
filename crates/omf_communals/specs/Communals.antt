-- Communals that EXTDEFs define by the TYPDEF of their type index, as Microsoft's C 3 to 5 and MASM 4 write them (TIS OMF 1.1, "TYPDEF", "EXTDEF", "COMDEF").
use Rattle.std.specs.Prelude.{◌≡◌, ◌⊎◌, ℕ, ◌+◌, ◌/◌, List, [], ◌∷◌, flat_map, map, Bool, ◌==◌, Option, Some, None, option_map, is_some, Result, Ok, Err, if◌then◌else◌}
use Rattle.std.specs.List.{AllZip, list_any}
use Rattle.omf_frame.specs.Bytes.{is_one_of, with_before}
use Rattle.omf_frame.specs.Fault.{Fault}
use Rattle.omf_frame.specs.Framing.{Raw, raw_bytes, raw_of}
use Rattle.omf_frame.specs.declared.fault.Place.{Place}
use Rattle.omf_frame.specs.declared.fault.Reason.{Reason}
use Rattle.omf_image.specs.Limits.{profile_limits}
-- computed: readings_meet_layouts and contents_are_typed_once of omf_records.
use Rattle.omf_records.specs.Inner.Reading.{typed}
use Rattle.omf_records.specs.Shortest.{communal_bytes, external_bytes}
use Rattle.omf_records.specs.Values.{At, CommunalItem, CommunalSize, Contents, Externs, ExternalItem}
use Rattle.omf_records.specs.Values as values
use Rattle.omf_check.specs.Module.{Module, records_in}
use Rattle.omf_check.specs.Refusal.{IsRefused}
use Rattle.omf_check.specs.Tables.{entry}
-- computed: readings_meet_layout of omf_communals.
use Rattle.omf_communals.specs.Inner.Readers.{typdef_whole}
use Rattle.omf_communals.specs.declared.variable.Variable.{Variable}
use Rattle.omf_communals.specs.declared.variable.Variable.TheVariants as variable

-- The variable that a TYPDEF with these contents describes.
abbrev pub variable_or_other : Result Variable Fault → Variable
variable_or_other (Ok v) = v
variable_or_other (Err e) = variable.Other

abbrev pub variable_of : List ℕ → Variable
variable_of body = variable_or_other (typdef_whole.read 3 body)

-- The variables of the TYPDEFs among these records, in order. A type index counts them from 1.
abbrev pub variables_in : ℕ → List ℕ → List Variable
variables_in kind body = if kind == 0x8E then variable_of body ∷ [] else []

abbrev pub variables : List Raw → List Variable
variables rs = flat_map (λ r. variables_in r.kind r.body) rs

-- A length in bits as a number of bytes, the last of which may not be full (this profile's rule).
abbrev pub bytes_for : ℕ → ℕ
bytes_for bits = (bits + 7) / 8

-- The size of an element of a far variable: its type is a near variable.
abbrev pub element_size : Option Variable → Option ℕ
element_size (Some (variable.Near bits)) = Some (bytes_for bits)
element_size _ = None

-- The size of a communal of a type, after these variables.
abbrev pub size_by : List Variable → Option Variable → Option CommunalSize
size_by vs (Some (variable.Near bits)) = Some (values.Near (bytes_for bits))
size_by vs (Some (variable.Far count element)) = option_map (values.Far count) (element_size (entry vs element))
size_by vs _ = None

-- The size that a type index gives an external, if it makes it a communal.
abbrev pub size_of : List Variable → ℕ → Option CommunalSize
size_of vs index = size_by vs (entry vs index)

abbrev pub is_communal : List Variable → At ExternalItem → Bool
is_communal vs e = is_some (size_of vs e.item.type_index)

-- The types of records with external names and no sizes: EXTDEF, LEXTDEF. A communal of the first is in a COMDEF, of the second in an LCOMDEF.
abbrev pub is_extern : ℕ → Bool
is_extern kind = is_one_of (0x8C ∷ 0xB4 ∷ 0xB5 ∷ []) kind

abbrev pub communal_kind : ℕ → ℕ
communal_kind kind = if kind == 0x8C then 0xB0 else 0xB8

-- The record that defines one external of a record of this type: a communal with this size, or else an external as it was.
abbrev pub communal : ExternalItem → CommunalSize → CommunalItem
communal e size = record { name = e.name; type_index = e.type_index; size = size }

abbrev pub record_by : ℕ → ExternalItem → Option CommunalSize → Raw
record_by kind e (Some size) = raw_of (communal_kind kind) (communal_bytes (communal e size))
record_by kind e None = raw_of kind (external_bytes e)

abbrev pub record_of : List Variable → ℕ → At ExternalItem → Raw
record_of vs kind e = record_by kind e.item (size_of vs e.item.type_index)

-- The records in place of a record: of an EXTDEF or LEXTDEF with a communal, one for each of its externals in order, so that the table of externals has the same
-- names; of any other itself.
abbrev pub records_by : List Variable → Raw → Contents → List Raw
records_by vs r (Externs items) = if list_any (is_communal vs) items then map (record_of vs r.kind) items else r ∷ []
records_by vs r _ = r ∷ []

abbrev pub replaced : List Raw → Raw → List Raw
replaced before r = if is_extern r.kind then records_by (variables before) r (typed r).contents else r ∷ []

-- Records with those in place of each, by the TYPDEFs before it.
abbrev pub with_communals : List Raw → List Raw
with_communals rs = with_before replaced [] rs

abbrev pub bytes_with : List ℕ → List ℕ
bytes_with bytes = flat_map raw_bytes (with_communals (records_in bytes))

-- A module that would be refused with these records, as one with too many of them, and so stays as it was.
pub record IsKept (m out : Module) : Type 0 where
  pub same : out ≡ m
  pub why : Reason
  pub at : Place
  pub refused : IsRefused m.profile profile_limits (bytes_with m.bytes) why at

-- A module with its communals.
abbrev pub IsWithCommunals : Module → Module → Type 0
IsWithCommunals m out = (out ≡ record m { bytes = bytes_with m.bytes }) ⊎ IsKept m out

abbrev pub AreWithCommunals : List Module → List Module → Type 0
AreWithCommunals ms out = AllZip IsWithCommunals ms out
