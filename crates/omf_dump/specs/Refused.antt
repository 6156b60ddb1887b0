-- What is shown of a refused module: the records before the fault, the record at fault, and those after it (this profile's rule).
use Rattle.std.specs.Prelude.{ℕ, ◌+◌, ◌-◌, ◌*◌, ◌/◌, ◌%◌, List, [], ◌∷◌, ◌++◌, length, take, drop, replicate, slice_index, nat_le, ◌==◌, if◌then◌else◌, is_some, Bool, true, false, codes, decimal}
use Rattle.omf_frame.specs.Fault.{reason_number, reason_name, sentence}
use Rattle.omf_frame.specs.Framing.{present}
use Rattle.omf_frame.specs.declared.kinds.Width.TheVariants.{Bits32}
use Rattle.omf_frame.specs.declared.fault.Place.{Place}
use Rattle.omf_frame.specs.declared.fault.Reason.{Reason}
use Rattle.omf_frame.specs.declared.fault.Reason.TheVariants as reason
use Rattle.omf_frame.specs.Types.{type_of}
use Rattle.omf_records.specs.Values.{Carried, Rec}
use Rattle.omf_library.specs.Library.{is_page_size, library_header, page_size}
use Rattle.omf_dump.specs.Fields.{Number, Hex, Word, Characters, Field, field}
use Rattle.omf_dump.specs.Known.{Tables, tables}
use Rattle.omf_dump.specs.Later.{body_of, checksum_if, front_kind, kept_record, later_text, lost_by, lost_with, none_lost, unjudged_body, unjudged_text}
use Rattle.omf_dump.specs.Looks.{is_foreign, looks_like}
use Rattle.omf_dump.specs.Render.{bytes_block, digits, fields_text, kind_head, line_end, place_head, record_end, rows}
use Rattle.omf_dump.specs.Words.{type_word}
use Rattle.omf_dump.specs.declared.format.Format.{Format}
use Rattle.omf_dump.specs.declared.format.Style.{Style}
use Rattle.omf_dump.specs.declared.format.Format.TheVariants as format
use Rattle.omf_dump.specs.declared.lost.Lost.{Lost}

-- The byte at the fault, if it is present.
abbrev pub byte_if : List ℕ → List Field
byte_if [] = []
byte_if (b ∷ _) = field (codes "byte") (Hex 2 b) ∷ []

-- Why bytes that begin with F0H are no library: they end in the header, or the header's length is no page size. The offset is that of the fault.
abbrev pub cut_fields : List Field
cut_fields = field (codes "library") (Word (codes "HeaderCut")) ∷ field (codes "offset") (Hex (digits Bits32) 0) ∷ []

abbrev pub size_fields : ℕ → List Field
size_fields size = field (codes "library") (Word (codes "PageSize")) ∷ field (codes "offset") (Hex (digits Bits32) 1) ∷ field (codes "size") (Number size) ∷ []

abbrev pub header_fields : List ℕ → List Field
header_fields input = if nat_le (page_size input) (length input) then (if is_page_size (page_size input) then [] else size_fields (page_size input)) else cut_fields

abbrev pub library_fields : List ℕ → List Field
library_fields input = if slice_index input 0 == library_header then header_fields input else []

-- What an input that does not begin with a header looks like.
abbrev pub look_if : Bool → List ℕ → List Field
look_if false input = []
look_if true input = field (codes "looks-like") (Characters (looks_like input)) ∷ library_fields input

-- The number of the reason and its name; the offset in the record of the field at fault, and the byte there, if it is present; the sentence.
abbrev pub reason_fields : Reason → ℕ → List ℕ → List Field
reason_fields why within bytes = field (codes "refused") (Number (reason_number why)) ∷ field (codes "reason") (Word (reason_name why)) ∷ field (codes "within") (Number within)
    ∷ (byte_if (drop within bytes) ++ field (codes "meaning") (Characters (sentence why)) ∷ [])

-- The bytes around an offset: the line of 16 bytes that it is in, and the lines before and after it.
abbrev pub window_start : ℕ → ℕ
window_start within = 16 * (within / 16 - 1)

abbrev pub window : ℕ → List ℕ → List ℕ
window within bytes = take 48 (drop (window_start within) bytes)

-- The type of a record, if its type byte is present.
abbrev pub kind_if : Format → List ℕ → List ℕ
kind_if f [] = []
kind_if f (kind ∷ _) = kind_head f kind (type_word kind)

-- The number of these bytes up to the end of the line with the offset.
abbrev pub marked_len : ℕ → ℕ
marked_len within = 16 * (within / 16) + 16 - window_start within

-- The line below the one with the byte at an offset: carets under its two digits, and the offset.
abbrev pub mark : ℕ → List ℕ
mark within = replicate (13 + 3 * (within % 16)) 32 ++ (codes "^^ +" ++ (decimal within ++ 10 ∷ []))

-- The same, if the byte is present: these are the bytes from it on.
abbrev pub mark_if : ℕ → List ℕ → List ℕ
mark_if within [] = []
mark_if within (b ∷ _) = mark within

-- The bytes around an offset of a record: in text the lines up to the one with the offset, the mark, and the other lines.
abbrev pub marked_rows : ℕ → List ℕ → List ℕ
marked_rows within bytes = rows (window_start within) (take (marked_len within) (window within bytes))
    ++ (mark_if within (drop within bytes) ++ rows (window_start within + marked_len within) (drop (marked_len within) (window within bytes)))

abbrev pub refused_bytes : Format → ℕ → List ℕ → List ℕ
refused_bytes format.Text within bytes = marked_rows within bytes
refused_bytes format.Json within bytes = bytes_block format.Json (window_start within) (window within bytes)

-- The record at fault, of an input of which these bytes follow the records before it: its place and type, why it is refused, what a file that
-- begins no module looks like; the bytes around the fault.
abbrev pub refused_line : Format → Place → Reason → List ℕ → List ℕ
refused_line f at why rest = place_head f at.number at.start ++ (kind_if f rest
    ++ (fields_text f (reason_fields why at.within (present rest)) ++ fields_text f (look_if (is_foreign at.number rest) rest)))

abbrev pub refused_front : Format → Place → Reason → List ℕ → List ℕ
refused_front f at why rest = refused_line f at why rest ++ (line_end f ++ refused_bytes f at.within (present rest))

abbrev pub refused_record : Format → Place → Reason → List ℕ → List ℕ
refused_record f at why rest = refused_front f at why rest ++ record_end f

-- The record at fault is shown with its fields too, if its type is known.
abbrev pub has_fields : List ℕ → Bool
has_fields [] = false
has_fields (kind ∷ _) = is_some (type_of kind)

-- What its fields go by that is not known: nothing, as the records before it are sound. But where the checksum is wrong, each of its bytes may be:
-- the entries that it defines have no numbers.
abbrev pub own_lost : Reason → List ℕ → Lost
own_lost reason.Checksum rest = lost_with rest
own_lost _ rest = none_lost

-- Its fields, in JSON as an object in its line.
abbrev pub fields_object : Style → List Rec → Lost → List ℕ → List ℕ
fields_object style before lost rest = codes ",\"fields\":{\"unjudged\":true" ++ (fields_text style.format (checksum_if rest) ++ (unjudged_body style before lost rest ++ 125 ∷ []))

-- In text its fields are shown like a later record, and then it is refused; in JSON one line has both.
abbrev pub fault_text : Format → Style → List Rec → Lost → Place → Reason → List ℕ → List ℕ
fault_text format.Text style before lost at why rest = unjudged_text style before lost at.number at.start rest ++ refused_record format.Text at why rest
fault_text format.Json style before lost at why rest = refused_front format.Json at why rest ++ (fields_object style before lost rest ++ record_end format.Json)

abbrev pub fault_record : Style → List Rec → Lost → Place → Reason → List ℕ → List ℕ
fault_record style before lost at why rest = if has_fields rest then fault_text style.format style before lost at why rest else refused_record style.format at why rest

-- The record at fault, for later ones: what it gives, if its type is known.
abbrev pub unread_record : List ℕ → Rec
unread_record rest = record { kind = front_kind rest; contents = Carried (body_of rest) }

abbrev pub faulty_record : Tables → Lost → List ℕ → Rec
faulty_record t lost rest = if has_fields rest then kept_record t lost rest else unread_record rest

-- What is not known after it.
abbrev pub faulty_lost : Tables → Lost → List ℕ → Lost
faulty_lost t lost rest = if has_fields rest then lost_by t lost rest else lost

-- The record at fault, after these records, and then the records that follow it, unjudged.
abbrev pub refusal_text : Style → List Rec → Place → Reason → List ℕ → List ℕ
refusal_text style before at why rest =
    fault_record style before (own_lost why rest) at why rest
    ++ later_text style (before ++ faulty_record (tables before) (own_lost why rest) rest ∷ []) (faulty_lost (tables before) (own_lost why rest) rest) at.number at.start rest
