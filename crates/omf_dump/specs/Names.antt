-- The names of a module, a line each, in the order of its records (TIS OMF 1.1, "EXTDEF", "PUBDEF", "COMDEF", "COMENT" and the local forms of these; which kind a
-- name is, and the text, are this profile's rules).
use Rattle.std.specs.Prelude.{◌≡◌, ℕ, ◌+◌, List, [], ◌∷◌, ◌++◌, length, map, flat_map, Bool, true, false, ◌==◌, Option, Some, None, option_to_list, codes, decimal, if◌then◌else◌}
use Rattle.omf_frame.specs.Bytes.{is_one_of}
use Rattle.omf_frame.specs.Framing.{Raw}
use Rattle.omf_frame.specs.Types.{is_local, width_of}
use Rattle.omf_frame.specs.declared.kinds.Width.{Width}
use Rattle.omf_image.specs.Limits.{profile_limits}
use Rattle.omf_records.specs.Values.{At, Rec, Contents, Comment, Externs, Publics, Communals, Plain, Iterated, ExternalItem, PublicItem, CommunalItem}
use Rattle.omf_check.specs.Classes.{is_code_name}
use Rattle.omf_check.specs.Tables.{defined_externals, entry, names, segments}
use Rattle.omf_check.specs.WellFormed.{IsAccepted, recs}
use Rattle.omf_check.specs.declared.segment.SegInfo.{SegInfo}
use Rattle.omf_library.specs.Imports.{import_class, imported}
use Rattle.omf_placement.specs.Quoted.{hex}
use Rattle.omf_placement.specs.Weak.{indices, paired}
use Rattle.omf_placement.specs.declared.several.pairs.WeakPair.{WeakPair}
use Rattle.omf_dump.specs.Csv.{csv_name, csv_quoted}
use Rattle.omf_dump.specs.Fields.{Number, Word, Characters, Flag, Field, field}
use Rattle.omf_dump.specs.Render.{digits, fields_text, quoted, record_end}
use Rattle.omf_dump.specs.Verdict.{IsRefusalLine}
use Rattle.omf_dump.specs.declared.format.Format.TheVariants as format
use Rattle.omf_dump.specs.declared.format.Listing.{Listing}
use Rattle.omf_dump.specs.declared.format.Shape.{Shape}
use Rattle.omf_dump.specs.declared.format.Shape.TheVariants as shape
use Rattle.omf_dump.specs.declared.format.Which.{Which}
use Rattle.omf_dump.specs.declared.format.Which.TheVariants as which
use Rattle.omf_dump.specs.declared.sort.Sort.{Sort}
use Rattle.omf_dump.specs.declared.sort.Sort.TheVariants as sort

-- A name: its kind; whether it is local; the segment and the offset of a public, or its base frame if it has no segment.
pub record NameRow : Type 0 where
  pub sort : Sort
  pub is_local : Bool
  pub segment : Option (List ℕ)
  pub frame : Option ℕ
  pub offset : Option (Width × ℕ)
  pub name : List ℕ

-- The segments of the data records: LEDATA, LIDATA.
abbrev pub data_segment : Contents → List ℕ
data_segment (Plain d) = d.segment.item ∷ []
data_segment (Iterated d) = d.segment.item ∷ []
data_segment _ = []

abbrev pub data_segments : List Rec → List ℕ
data_segments m = flat_map (λ r. data_segment r.contents) m

-- The externals that the comments of a class name, each with its default: A8H is WKEXT, A9H is LZEXT.
abbrev pub weak_of : WeakPair → ℕ
weak_of p = p.weak

abbrev pub weak_in : ℕ → Contents → List ℕ
weak_in class (Comment byte c text) = if c == class then map weak_of (paired (indices text)) else []
weak_in class _ = []

abbrev pub weak_externals : ℕ → List Rec → List ℕ
weak_externals class m = flat_map (λ r. weak_in class r.contents) m

-- The kind of a public: one without a segment is absolute. Otherwise its segment decides: text if the class ends in CODE, else data if the module has
-- data for it, else bss.
abbrev pub is_code : List Rec → Option SegInfo → Bool
is_code m None = false
is_code m (Some s) = is_code_name (entry (names m) s.class)

abbrev pub segment_sort : List Rec → ℕ → Sort
segment_sort m i = if is_code m (entry (segments m) i) then sort.Text else if is_one_of (data_segments m) i then sort.Data else sort.Bss

abbrev pub public_sort : List Rec → ℕ → Sort
public_sort m i = if i == 0 then sort.Absolute else segment_sort m i

-- The kind of an external, by its index: weak if a WKEXT names it, else lazy if an LZEXT does, else undefined.
abbrev pub external_sort : List Rec → ℕ → Sort
external_sort m i = if is_one_of (weak_externals 0xA8 m) i then sort.Weak else if is_one_of (weak_externals 0xA9 m) i then sort.Lazy else sort.Undefined

-- The name of a segment; none if it has none, and of index 0.
abbrev pub name_of_segment : List Rec → Option SegInfo → Option (List ℕ)
name_of_segment m None = None
name_of_segment m (Some s) = entry (names m) s.name

abbrev pub segment_name : List Rec → ℕ → Option (List ℕ)
segment_name m i = name_of_segment m (entry (segments m) i)

-- The names of records. A name without a place; one of a PUBDEF or an LPUBDEF of a type, with a segment and a base frame; those of an EXTDEF or a LEXTDEF,
-- whose first one has this index.
abbrev pub bare_row : Sort → Bool → List ℕ → NameRow
bare_row s is_local name = record { sort = s; is_local = is_local; segment = None; frame = None; offset = None; name = name }

abbrev pub public_row : List Rec → ℕ → ℕ → Option ℕ → At PublicItem → NameRow
public_row m kind segment frame q = record {
  sort = public_sort m segment;
  is_local = is_local kind;
  segment = segment_name m segment;
  frame = frame;
  offset = Some (width_of kind, q.item.offset);
  name = q.item.name;
}

abbrev pub external_rows : List Rec → Bool → ℕ → List (At ExternalItem) → List NameRow
external_rows m is_local first [] = []
external_rows m is_local first (e ∷ es) = bare_row (external_sort m first) is_local e.item.name ∷ external_rows m is_local (first + 1) es

abbrev pub communal_row : Bool → At CommunalItem → NameRow
communal_row is_local c = bare_row sort.Common is_local c.item.name

abbrev pub import_rows : ℕ → List ℕ → List NameRow
import_rows class text = if class == import_class then map (bare_row sort.Imported false) (option_to_list (imported text)) else []

-- The names of a record of a type, of which externals begin at this index.
abbrev pub record_rows : List Rec → ℕ → ℕ → Contents → List NameRow
record_rows m first kind (Externs items) = external_rows m (is_local kind) first items
record_rows m first kind (Publics p) = map (public_row m kind p.segment.item p.frame) p.items
record_rows m first kind (Communals items) = map (communal_row (is_local kind)) items
record_rows m first kind (Comment byte class text) = import_rows class text
record_rows m first kind _ = []

-- Whether a name is listed.
abbrev pub is_undefined : Sort → Bool
is_undefined sort.Undefined = true
is_undefined sort.Weak = true
is_undefined sort.Lazy = true
is_undefined _ = false

abbrev pub is_listed : Which → Sort → Bool
is_listed which.All s = true
is_listed which.Defined s = if is_undefined s then false else true
is_listed which.Undefined s = is_undefined s

-- The words of the kinds.
abbrev pub sort_word : Sort → List ℕ
sort_word sort.Text = codes "text"
sort_word sort.Data = codes "data"
sort_word sort.Bss = codes "bss"
sort_word sort.Common = codes "common"
sort_word sort.Absolute = codes "absolute"
sort_word sort.Undefined = codes "undefined"
sort_word sort.Weak = codes "weak"
sort_word sort.Lazy = codes "lazy"
sort_word sort.Imported = codes "imported"

-- Text: kind, segment, offset, name; and the word local. In place of a segment without a name is a dash, and in place of none the base frame or a dash.
abbrev pub place_words : Option (List ℕ) → Option ℕ → List ℕ
place_words (Some segment) frame = quoted format.Text segment
place_words None (Some frame) = hex 4 frame
place_words None None = codes "-"

abbrev pub offset_words : Option (Width × ℕ) → List ℕ
offset_words None = codes "-"
offset_words (Some at) = hex (digits at.0) at.1

abbrev pub local_words : Bool → List ℕ
local_words true = codes " local\n"
local_words false = codes "\n"

abbrev pub front_words : Sort → Option (List ℕ) → Option ℕ → Option (Width × ℕ) → List ℕ
front_words s segment frame offset = sort_word s ++ (32 ∷ (place_words segment frame ++ (32 ∷ offset_words offset)))

abbrev pub back_words : List ℕ → Bool → List ℕ
back_words name is_local = 32 ∷ (quoted format.Text name ++ local_words is_local)

abbrev pub row_words : NameRow → List ℕ
row_words r = front_words r.sort r.segment r.frame r.offset ++ back_words r.name r.is_local

-- JSON: the same as keys of an object.
abbrev pub segment_fields : Option (List ℕ) → List Field
segment_fields None = []
segment_fields (Some segment) = field (codes "segment") (Characters segment) ∷ []

abbrev pub frame_fields : Option ℕ → List Field
frame_fields None = []
frame_fields (Some frame) = field (codes "frame") (Number frame) ∷ []

abbrev pub offset_fields : Option (Width × ℕ) → List Field
offset_fields None = []
offset_fields (Some at) = field (codes "offset") (Number at.1) ∷ []

abbrev pub sort_fields : Sort → Bool → List Field
sort_fields s is_local = field (codes "kind") (Word (sort_word s)) ∷ field (codes "local") (Flag is_local) ∷ []

abbrev pub symbol_fields : List ℕ → List Field
symbol_fields name = field (codes "symbol") (Characters name) ∷ []

abbrev pub front_keys : Sort → Bool → Option (List ℕ) → Option ℕ → List ℕ
front_keys s is_local segment frame = fields_text format.Json (sort_fields s is_local) ++ (fields_text format.Json (segment_fields segment) ++ fields_text format.Json (frame_fields frame))

abbrev pub back_keys : Option (Width × ℕ) → List ℕ → List ℕ
back_keys offset name = fields_text format.Json (offset_fields offset) ++ (fields_text format.Json (symbol_fields name) ++ record_end format.Json)

abbrev pub row_object : NameRow → List ℕ
row_object r = front_keys r.sort r.is_local r.segment r.frame ++ back_keys r.offset r.name

-- Comma-separated values: the same, with decimal numbers, and the empty cells of a refusal.
abbrev pub local_cell : Bool → List ℕ
local_cell true = codes ",true,"
local_cell false = codes ",false,"

abbrev pub frame_cell : Option ℕ → List ℕ
frame_cell None = []
frame_cell (Some frame) = decimal frame

abbrev pub offset_cell : Option (Width × ℕ) → List ℕ
offset_cell None = []
offset_cell (Some at) = decimal at.1

abbrev pub front_cells : Sort → Bool → Option (List ℕ) → Option ℕ → List ℕ
front_cells s is_local segment frame = 44 ∷ (sort_word s ++ (local_cell is_local ++ (csv_name segment ++ (44 ∷ frame_cell frame))))

abbrev pub back_cells : Option (Width × ℕ) → List ℕ → List ℕ
back_cells offset name = 44 ∷ (offset_cell offset ++ (44 ∷ (csv_quoted name ++ codes ",,,,,,\n")))

abbrev pub row_cells : NameRow → List ℕ
row_cells r = front_cells r.sort r.is_local r.segment r.frame ++ back_cells r.offset r.name

abbrev pub row_text : Shape → NameRow → List ℕ
row_text shape.Text r = row_words r
row_text shape.Json r = row_object r
row_text shape.Csv r = row_cells r

-- The line of a name after `head`, if it is listed.
abbrev pub row_line : Shape → Which → List ℕ → NameRow → List ℕ
row_line f w head r = if is_listed w r.sort then head ++ row_text f r else []

abbrev pub rows_text : Shape → Which → List ℕ → List NameRow → List ℕ
rows_text f w head rows = flat_map (row_line f w head) rows

-- The names of records one after another, of which the first external has this index; those of a module.
abbrev pub rows_from : List Rec → ℕ → List Rec → List NameRow
rows_from m first [] = []
rows_from m first (r ∷ rs) = record_rows m first r.kind r.contents ++ rows_from m (first + length (defined_externals r.contents)) rs

abbrev pub module_rows : List Rec → List NameRow
module_rows m = rows_from m 1 m

-- The lines of bytes as a module, after `head`, by whether they are refused: one for each name that is listed of the module that they begin with; or one
-- with their first fault.
abbrev pub IsNamed : Listing → Which → List ℕ → List ℕ → Bool → List ℕ → Type 0
IsNamed l w head input false text = (records : List Raw) × IsAccepted l.profile profile_limits input records × (text ≡ rows_text l.shape w head (module_rows (recs records)))
IsNamed l w head input true text = IsRefusalLine l head input text
