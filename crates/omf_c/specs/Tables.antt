-- The rows of a module's tables, from its records with their places (TIS OMF 1.1, the page of each record; their form is this profile's
-- rule).
use Rattle.std.specs.Prelude.{ℕ, ◌+◌, List, [], ◌∷◌, length, map, flat_map, Bool, true, false, Option, Some, None, is_some, unwrap_or, if◌then◌else◌}
use Rattle.omf_frame.specs.Types.{is_local}
use Rattle.omf_frame.specs.declared.fault.Place.{Place}
use Rattle.omf_frame.specs.Framing.{Raw}
use Rattle.omf_records.specs.Values.{At, Rec, Contents, Header, Comment, Names, Segment, Group, Externs, Publics, Communals, SegmentItem, GroupItem, ExternalItem, PublicItem, PublicItems, CommunalItem, CommunalSize, Near, Far, alignment, combination, is_use32}
use Rattle.omf_check.specs.Listed.{placed_from}
use Rattle.omf_check.specs.Tables.{entry, segment_length}
use Rattle.omf_c.specs.declared.rows.NamePlace.{NamePlace}
use Rattle.omf_c.specs.declared.rows.HeaderRow.{HeaderRow}
use Rattle.omf_c.specs.declared.rows.CommentRow.{CommentRow}
use Rattle.omf_c.specs.declared.rows.SegmentRow.{SegmentRow}
use Rattle.omf_c.specs.declared.rows.GroupRow.{GroupRow}
use Rattle.omf_c.specs.declared.rows.MemberRow.{MemberRow}
use Rattle.omf_c.specs.declared.rows.ExternalRow.{ExternalRow}
use Rattle.omf_c.specs.declared.rows.PublicRow.{PublicRow}

-- The rows that a record gives: by where the names of the module are, the record's place, its type and its contents.
abbrev pub RowsOf : Type 0 → Type 0
RowsOf Row = List NamePlace → Place → ℕ → Contents → List Row

-- The rows of all records, in order.
abbrev pub rows_from : {Row : Type 0} → RowsOf Row → List NamePlace → List (Place × Rec) → List Row
rows_from rows names xs = flat_map (λ x. rows names x.0 x.1.kind x.1.contents) xs

-- A truth value as a number.
abbrev pub flag : Bool → ℕ
flag true = 1
flag false = 0

-- Where a name is. Its length byte is at an offset of a record, and its bytes follow (TIS OMF 1.1, "Frequently used fields").
abbrev pub name_at : Place → ℕ → List ℕ → NamePlace
name_at p within name = record { offset = p.start + within + 1; size = length name }

abbrev pub no_name : NamePlace
no_name = record { offset = 0; size = 0 }

-- The place of the name with an index, from 1; that of no name for 0.
abbrev pub name_of : List NamePlace → ℕ → NamePlace
name_of names i = unwrap_or (entry names i) no_name

-- The names of LNAMES and LLNAMES.
abbrev pub places_of : Place → List (At (List ℕ)) → List NamePlace
places_of p items = map (λ n. name_at p n.within n.item) items

abbrev pub name_rows : RowsOf NamePlace
name_rows names p kind (Names items) = places_of p items
name_rows names p kind _ = []

-- THEADR and LHEADR: the length byte of the name is at offset 3.
abbrev pub header_row : Place → ℕ → List ℕ → HeaderRow
header_row p kind name = record { name = name_at p 3 name; type_byte = kind; number = p.number }

abbrev pub header_rows : RowsOf HeaderRow
header_rows names p kind (Header name) = header_row p kind name ∷ []
header_rows names p kind _ = []

-- COMENT: the comment type is at offset 3, the comment class at 4, and the text follows.
abbrev pub comment_row : Place → ℕ → ℕ → List ℕ → CommentRow
comment_row p flags class text = record { text = record { offset = p.start + 5; size = length text }; class_byte = class; flags = flags; number = p.number; unused = 0 }

abbrev pub comment_rows : RowsOf CommentRow
comment_rows names p kind (Comment flags class text) = comment_row p flags class text ∷ []
comment_rows names p kind _ = []

-- SEGDEF. An absolute segment has a frame number and an offset.
abbrev pub frame_of : Option (ℕ × ℕ) → ℕ
frame_of None = 0
frame_of (Some a) = a.0

abbrev pub frame_offset_of : Option (ℕ × ℕ) → ℕ
frame_offset_of None = 0
frame_offset_of (Some a) = a.1

abbrev pub segment_row : List NamePlace → ℕ → SegmentItem → SegmentRow
segment_row names kind s = record {
  name = name_of names s.name.item;
  class_name = name_of names s.class.item;
  overlay_name = name_of names s.overlay;
  size = segment_length kind s;
  align = alignment s.attribute;
  combine = combination s.attribute;
  bits = if is_use32 s.attribute then 32 else 16;
  is_absolute = flag (is_some s.absolute);
  frame = frame_of s.absolute;
  frame_offset = frame_offset_of s.absolute;
}

abbrev pub segment_rows : RowsOf SegmentRow
segment_rows names p kind (Segment s) = segment_row names kind s ∷ []
segment_rows names p kind _ = []

-- GRPDEF: the group; and its members, in order.
abbrev pub group_row : List NamePlace → GroupItem → GroupRow
group_row names g = record { name = name_of names g.name.item; members = length g.members }

abbrev pub group_rows : RowsOf GroupRow
group_rows names p kind (Group g) = group_row names g ∷ []
group_rows names p kind _ = []

abbrev pub member_row : At (At ℕ) → MemberRow
member_row m = record { segment = m.item.item }

abbrev pub member_rows : RowsOf MemberRow
member_rows names p kind (Group g) = map member_row g.members
member_rows names p kind _ = []

-- EXTDEF and LEXTDEF; COMDEF and LCOMDEF.
abbrev pub named_external : Bool → NamePlace → ℕ → ExternalRow
named_external local name index = record { name = name; type_index = index; is_local = flag local; communal = 0; elements = 0; element_size = 0; unused = 0 }

abbrev pub external_row : Bool → Place → At ExternalItem → ExternalRow
external_row local p e = named_external local (name_at p e.within e.item.name) e.item.type_index

abbrev pub sized : ExternalRow → CommunalSize → ExternalRow
sized row (Near n) = record row { communal = 1; elements = 1; element_size = n }
sized row (Far n size) = record row { communal = 2; elements = n; element_size = size }

abbrev pub communal_row : Bool → Place → At CommunalItem → ExternalRow
communal_row local p c = sized (named_external local (name_at p c.within c.item.name) c.item.type_index) c.item.size

abbrev pub external_rows : RowsOf ExternalRow
external_rows names p kind (Externs items) = map (external_row (is_local kind) p) items
external_rows names p kind (Communals items) = map (communal_row (is_local kind) p) items
external_rows names p kind _ = []

-- PUBDEF and LPUBDEF: a row has what its record gives all its names, and its own name, offset and type.
abbrev pub public_base : Bool → PublicItems → PublicRow
public_base local q = record { name = no_name; offset = 0; segment = q.segment.item; group = q.group.item; frame = unwrap_or q.frame 0; type_index = 0; is_local = flag local }

abbrev pub public_row : PublicRow → Place → At PublicItem → PublicRow
public_row base p q = record base { name = name_at p q.within q.item.name; offset = q.item.offset; type_index = q.item.type_index }

abbrev pub public_rows : RowsOf PublicRow
public_rows names p kind (Publics q) = map (public_row (public_base (is_local kind) q) p) q.items
public_rows names p kind _ = []

-- The places of the names of a module, and a table of it.
abbrev pub names_in : List Raw → List NamePlace
names_in records = rows_from name_rows [] (placed_from 0 0 records)

abbrev pub table_of : {Row : Type 0} → RowsOf Row → List Raw → List Row
table_of rows records = rows_from rows (names_in records) (placed_from 0 0 records)
