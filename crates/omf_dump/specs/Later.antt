-- The record at fault and those after it, as far as they can be read (this profile's rule). They are not judged.
use Rattle.std.specs.Prelude.{ℕ, zero, suc, ◌+◌, ◌-◌, List, [], ◌∷◌, ◌++◌, drop, Bool, true, false, not, ◌&&◌, ◌==◌, is_ok, is_some, codes, Option, None, Some, unwrap_or, if◌then◌else◌}
use Rattle.omf_frame.specs.Framing.{after_front, front_record, is_end, is_taken, is_whole, record_len, stated_length}
use Rattle.omf_frame.specs.Types.{type_of, width_of}
use Rattle.omf_frame.specs.declared.kinds.RecordType.{RecordType}
use Rattle.omf_frame.specs.declared.kinds.RecordType.TheVariants as types
use Rattle.omf_frame.specs.declared.kinds.Width.{Width}
-- computed: readings_meet_layouts and contents_are_typed_once of omf_records.
use Rattle.omf_records.specs.Inner.Reading.{contents_or, read_body}
use Rattle.omf_records.specs.Values.{Contents, Iterated, Carried, Rec}
use Rattle.omf_check.specs.Tables.{subrecords}
use Rattle.omf_dump.specs.Contents.{shown}
use Rattle.omf_dump.specs.Fields.{Flag, Hex, Field, field}
use Rattle.omf_dump.specs.Gives.{given_by}
use Rattle.omf_dump.specs.Known.{Tables, tables, fixed_data}
use Rattle.omf_dump.specs.Looks.{is_foreign}
use Rattle.omf_dump.specs.Render.{fields_text, head_text, record_end, shown_text, value_text}
use Rattle.omf_dump.specs.declared.format.Format.{Format}
use Rattle.omf_dump.specs.declared.format.Style.{Style}
use Rattle.omf_dump.specs.declared.lost.Lost.{Lost}

-- The type byte of the record at the front.
abbrev pub front_kind : List ℕ → ℕ
front_kind [] = 0
front_kind (kind ∷ _) = kind

-- What is not known after records that are not read: entries of tables, threads.
abbrev pub none_lost : Lost
none_lost = record { names = false; segments = false; groups = false; externals = false; threads = false }

-- Records of this type define entries after others that are not known, or name threads that are not known.
abbrev pub is_lost : Lost → RecordType → Bool
is_lost lost types.Lnames = lost.names
is_lost lost types.Llnames = lost.names
is_lost lost types.Segdef = lost.segments
is_lost lost types.Grpdef = lost.groups
is_lost lost types.Extdef = lost.externals
is_lost lost types.Lextdef = lost.externals
is_lost lost types.Comdef = lost.externals
is_lost lost types.Lcomdef = lost.externals
is_lost lost types.Cextdef = lost.externals
is_lost lost types.Fixupp = lost.threads
is_lost lost types.Modend = lost.threads
is_lost lost _ = false

-- What is not known after a record of this type that is not read.
abbrev pub lose : Lost → RecordType → Lost
lose lost types.Lnames = record lost { names = true }
lose lost types.Llnames = record lost { names = true }
lose lost types.Segdef = record lost { segments = true }
lose lost types.Grpdef = record lost { groups = true }
lose lost types.Extdef = record lost { externals = true }
lose lost types.Lextdef = record lost { externals = true }
lose lost types.Comdef = record lost { externals = true }
lose lost types.Lcomdef = record lost { externals = true }
lose lost types.Cextdef = record lost { externals = true }
lose lost types.Fixupp = record lost { threads = true }
lose lost _ = lost

-- A record of this type has data that fixups may change.
abbrev pub has_data : RecordType → Bool
has_data types.Ledata = true
has_data types.Lidata = true
has_data types.Comdat = true
has_data _ = false

-- The same for a type byte.
abbrev pub is_lost_if : Lost → Option RecordType → Bool
is_lost_if lost None = false
is_lost_if lost (Some t) = is_lost lost t

abbrev pub lose_if : Lost → Option RecordType → Lost
lose_if lost None = lost
lose_if lost (Some t) = lose lost t

abbrev pub has_data_if : Option RecordType → Bool
has_data_if None = false
has_data_if (Some t) = has_data t

-- A record is read: a module may have its type, what it goes by is known, and its layout has no fault.
abbrev pub is_plain : Lost → ℕ → Bool
is_plain lost kind = is_taken kind && not (is_lost_if lost (type_of kind))

abbrev pub is_read : Lost → ℕ → List ℕ → Bool
is_read lost kind body = is_plain lost kind && is_ok (read_body kind body)

-- What is shown of it: its contents, or else its fields by its bytes alone.
abbrev pub unjudged_contents : Lost → ℕ → List ℕ → Contents
unjudged_contents lost kind body = if is_plain lost kind then contents_or body (read_body kind body) else Carried body

-- What later records are shown by. Data that are not read are data of which no byte is known.
abbrev pub unknown_data : Contents
unknown_data = Iterated (record { segment = record { within = 0; item = 0 }; offset = record { within = 0; item = 0 }; bytes = [] })

abbrev pub stand_in : ℕ → List ℕ → Contents
stand_in kind body = if has_data_if (type_of kind) then unknown_data else Carried body

-- A record that is not read may give entries or data all the same, if its place in the tables is known. Else what it would have given is lost.
abbrev pub given_if : List (List ℕ) → Lost → Width → List ℕ → Option RecordType → Option Contents
given_if names lost w body None = None
given_if names lost w body (Some t) = if is_lost lost t then None else given_by names w t body

abbrev pub given : Tables → Lost → ℕ → List ℕ → Option Contents
given t lost kind body = given_if t.names lost (width_of kind) body (type_of kind)

abbrev pub unread_contents : Tables → Lost → ℕ → List ℕ → Contents
unread_contents t lost kind body = unwrap_or (given t lost kind body) (stand_in kind body)

abbrev pub unread_lost : Tables → Lost → ℕ → List ℕ → Lost
unread_lost t lost kind body = if is_some (given t lost kind body) then lost else lose_if lost (type_of kind)

abbrev pub kept_contents : Tables → Lost → ℕ → List ℕ → Contents
kept_contents t lost kind body = if is_read lost kind body then contents_or body (read_body kind body) else unread_contents t lost kind body

abbrev pub lost_after : Tables → Lost → ℕ → List ℕ → Lost
lost_after t lost kind body = if is_read lost kind body then lost else unread_lost t lost kind body

-- The same for the record at the front of these bytes, after records with these tables.
abbrev pub body_of : List ℕ → List ℕ
body_of bytes = (front_record bytes).body

abbrev pub kept_record : Tables → Lost → List ℕ → Rec
kept_record t lost bytes = record { kind = front_kind bytes; contents = kept_contents t lost (front_kind bytes) (body_of bytes) }

abbrev pub lost_by : Tables → Lost → List ℕ → Lost
lost_by t lost bytes = lost_after t lost (front_kind bytes) (body_of bytes)

-- The checksum byte, if it is there.
abbrev pub checksum_at : List ℕ → List Field
checksum_at [] = []
checksum_at (sum ∷ _) = field (codes "checksum") (Hex 2 sum) ∷ []

abbrev pub checksum_if : List ℕ → List Field
checksum_if bytes = if stated_length bytes == 0 then [] else checksum_at (drop (2 + stated_length bytes) bytes)

-- A record that is not judged, after these records: number, offset, type, checksum, and what is shown of its contents.
abbrev pub unjudged_head : Format → ℕ → ℕ → List ℕ → List ℕ
unjudged_head f number start bytes = head_text f number start (front_kind bytes) ++ (fields_text f (checksum_if bytes) ++ value_text f (codes "unjudged") (Flag true))

abbrev pub unjudged_body : Style → List Rec → Lost → List ℕ → List ℕ
unjudged_body style before lost bytes = shown_text style (shown (tables before) (fixed_data before) (subrecords before) (front_kind bytes) (unjudged_contents lost (front_kind bytes) (body_of bytes)))

abbrev pub unjudged_text : Style → List Rec → Lost → ℕ → ℕ → List ℕ → List ℕ
unjudged_text style before lost number start bytes = unjudged_head style.format number start bytes ++ (unjudged_body style before lost bytes ++ record_end style.format)

-- The records from an offset on, as far as they are whole, up to the first MODEND. The first `skipped` bytes are those of the record before.
abbrev pub later_from : Style → List Rec → Lost → ℕ → ℕ → ℕ → List ℕ → List ℕ
later_from f before lost number start skipped [] = []
later_from f before lost number start (suc skipped) (b ∷ bytes) = later_from f before lost number (start + 1) skipped bytes
later_from f before lost number start zero (kind ∷ bytes) =
    if is_whole (kind ∷ bytes) then
    unjudged_text f before lost number start (kind ∷ bytes)
    ++ (if is_end kind then []
    else later_from f (before ++ kept_record (tables before) lost (kind ∷ bytes) ∷ []) (lost_by (tables before) lost (kind ∷ bytes)) (number + 1) (start + 1) (record_len (kind ∷ bytes) - 1) bytes)
    else []

-- Whether records can follow the one at fault: it is whole, no MODEND, and not the beginning of a file of another kind.
abbrev pub goes_on : ℕ → List ℕ → Bool
goes_on number bytes = is_whole bytes && (not (is_end (front_kind bytes)) && not (is_foreign number bytes))

-- What is not known of a record with a wrong checksum: entries that it defines may be too many or too few.
abbrev pub lost_with : List ℕ → Lost
lost_with bytes = lose_if none_lost (type_of (front_kind bytes))

-- The records that follow the one at fault, which is at the front and has this number and offset. `before` are the records up to it, with it.
abbrev pub later_text : Style → List Rec → Lost → ℕ → ℕ → List ℕ → List ℕ
later_text f before lost number start bytes =
    if goes_on number bytes then later_from f before lost (number + 1) (start + record_len bytes) 0 (after_front bytes) else []
