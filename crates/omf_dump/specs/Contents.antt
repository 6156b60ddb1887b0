-- What is shown of the contents of each record: their fields by the names of the standard (TIS OMF 1.1, the page of each record).
use Rattle.omf_records.specs.Methods.{frame_code, kind_of}
use Rattle.std.specs.Prelude.{ℕ, ◌+◌, ◌-◌, ◌*◌, ◌^◌, List, [], ◌∷◌, ◌++◌, length, map, take, drop, not, Option, Some, None, option_map, unwrap_or, Result, Ok, Err, nat_le, codes, if◌then◌else◌}
use Rattle.omf_frame.specs.Bytes.{bits}
use Rattle.omf_records.specs.Location.{row_of}
use Rattle.omf_records.specs.Values.{At, SegmentItem, ExternalItem, PublicItem, CommunalSize, Near, Far, CommunalItem, Reference, Subrecord, Thread, Fixup, Contents, Header, Comment, Names, Segment, Group, Externs, Publics, Communals, Plain, Iterated, Fixups, ModEnd, Carried, is_big, thread_is_frame, thread_method, is_segment_relative, location_type, location_offset, frame_by_thread, target_by_thread, target_bits}
use Rattle.omf_frame.specs.Types.{width_bytes, width_of}
use Rattle.omf_frame.specs.declared.kinds.Width.{Width}
use Rattle.omf_image.specs.Limits.{profile_limits}
-- computed: lengths_are_decided of omf_image.
use Rattle.omf_image.specs.Inner.Expanding.{expanded_length}
use Rattle.omf_records.specs.declared.method.Kind.TheVariants as kinds
use Rattle.omf_records.specs.declared.method.Kind.{Kind}
use Rattle.omf_check.specs.declared.method.FrameMethod.{FrameMethod}
use Rattle.omf_check.specs.declared.method.FrameMethod.TheVariants as frames
use Rattle.omf_check.specs.declared.method.TargetMethod.{TargetMethod}
use Rattle.omf_check.specs.Threads.{setting, frame_of, target_of, frame_by}
use Rattle.omf_dump.specs.Blocks.{blocks_from}
use Rattle.omf_dump.specs.Comments.{class_fields, class_items}
use Rattle.omf_dump.specs.Fields.{Entry, Value, Number, Hex, Word, Characters, Marked, Named, Method, Flag, Field, field, Item, item, Shown, only_fields, with_items, with_block}
use Rattle.omf_dump.specs.Known.{Data, Tables, name_entry, segment_entry, group_entry, external_entry}
use Rattle.omf_dump.specs.Raw.{attribute_fields, comment_class, comment_flags, end_flags, raw_shown}
use Rattle.omf_dump.specs.Render.{digits}
use Rattle.omf_dump.specs.Words.{location_word}

-- THEADR, LHEADR.
abbrev pub header_fields : List ℕ → List Field
header_fields name = field (codes "name") (Characters name) ∷ []

-- COMENT: class, its name, the bits of the type byte, the fields of the class, the text.
abbrev pub comment_fields : ℕ → ℕ → List ℕ → List Field
comment_fields byte class text = comment_class class ++ (comment_flags byte ++ (class_fields class text ++ field (codes "text") (Characters text) ∷ []))

-- SEGDEF: the index that it defines; name, class and overlay; attributes; the place of an absolute segment; the length in bytes.
abbrev pub segment_names : Tables → ℕ → SegmentItem → List Field
segment_names t index s = field (codes "segment") (Number index) ∷ field (codes "name") (Named (name_entry t s.name.item))
    ∷ field (codes "class") (Named (name_entry t s.class.item)) ∷ field (codes "overlay") (Named (name_entry t s.overlay)) ∷ []

abbrev pub absolute_fields : ℕ × ℕ → List Field
absolute_fields at = field (codes "frame") (Hex 4 at.0) ∷ field (codes "offset") (Hex 2 at.1) ∷ []

abbrev pub absolute_if : Option (ℕ × ℕ) → List Field
absolute_if None = []
absolute_if (Some at) = absolute_fields at

abbrev pub length_field : Width → ℕ → List Field
length_field width n = field (codes "length") (Hex (digits width) n) ∷ []

-- The length of a segment: a big one has 2^16 bytes, or 2^32 in a 32-bit record.
abbrev pub length_of : Width → SegmentItem → ℕ
length_of width s = if is_big s.attribute then 2 ^ (8 * width_bytes width) else s.size

abbrev pub segment_fields : Tables → ℕ → Width → SegmentItem → List Field
segment_fields t index width s = segment_names t index s ++ (attribute_fields s.attribute ++ (absolute_if s.absolute ++ length_field width (length_of width s)))

-- GRPDEF: the index that it defines, its name; each member.
abbrev pub group_fields : Tables → ℕ → At ℕ → List Field
group_fields t index name = field (codes "group") (Number index) ∷ field (codes "name") (Named (name_entry t name.item)) ∷ []

abbrev pub member_fields : Tables → At ℕ → List Field
member_fields t m = field (codes "segment") (Named (segment_entry t m.item)) ∷ []

-- LNAMES, LLNAMES: each name with its index.
abbrev pub name_fields : ℕ → List ℕ → List Field
name_fields index name = field (codes "name") (Named (record { index = index; name = Some name })) ∷ []

-- EXTDEF, LEXTDEF: each external name with its index.
abbrev pub indexed_fields : ℕ → List ℕ → ℕ → List Field
indexed_fields index name type_index = field (codes "external") (Named (record { index = index; name = Some name })) ∷ field (codes "type") (Number type_index) ∷ []

abbrev pub external_fields : ℕ → ExternalItem → List Field
external_fields index e = indexed_fields index e.name e.type_index

-- COMDEF, LCOMDEF: each external name with its index, and its size in bytes; if it is far, the number of elements and the size of one.
abbrev pub size_fields : CommunalSize → List Field
size_fields (Near n) = field (codes "communal") (Word (codes "near")) ∷ field (codes "length") (Hex 4 n) ∷ []
size_fields (Far count size) = field (codes "communal") (Word (codes "far")) ∷ field (codes "count") (Hex 4 count) ∷ field (codes "size") (Hex 4 size) ∷ []

abbrev pub communal_fields : ℕ → CommunalItem → List Field
communal_fields index c = indexed_fields index c.name c.type_index ++ size_fields c.size

-- PUBDEF, LPUBDEF: the base; each public name with its offset there.
abbrev pub frame_if : Option ℕ → List Field
frame_if None = []
frame_if (Some frame) = field (codes "frame") (Hex 4 frame) ∷ []

abbrev pub base_fields : Entry → Entry → Option ℕ → List Field
base_fields group segment frame = field (codes "group") (Named group) ∷ (field (codes "segment") (Named segment) ∷ frame_if frame)

abbrev pub public_fields : Width → PublicItem → List Field
public_fields width p = field (codes "public") (Characters p.name) ∷ field (codes "offset") (Hex (digits width) p.offset) ∷ field (codes "type") (Number p.type_index) ∷ []

-- LEDATA: segment, offset and length; the data. LIDATA: the length of the expanded blocks, if they expand within the limits; each block.
abbrev pub place_fields : Width → Entry → ℕ → List Field
place_fields width segment offset = field (codes "segment") (Named segment) ∷ field (codes "offset") (Hex (digits width) offset) ∷ []

abbrev pub length_if : {E : Type 0} → Width → Result ℕ E → List Field
length_if width (Ok n) = length_field width n
length_if width (Err e) = []

-- A segment, a group or an external by its index and its name.
abbrev pub kind_word : Kind → List ℕ
kind_word kinds.Segment = codes "segment"
kind_word kinds.Group = codes "group"
kind_word kinds.External = codes "external"

abbrev pub kind_entry : Tables → Kind → ℕ → Entry
kind_entry t kinds.Segment i = segment_entry t i
kind_entry t kinds.Group i = group_entry t i
kind_entry t kinds.External i = external_entry t i

abbrev pub entry_value : Tables → TargetMethod → Value
entry_value t m = Method (kind_word m.kind) (Some (kind_entry t m.kind m.index))

-- The target and the frame of a reference, by method. None: a thread that is not set.
abbrev pub target_value : Tables → Option TargetMethod → Value
target_value t None = Method (codes "unset") None
target_value t (Some m) = entry_value t m

abbrev pub frame_value : Tables → Option FrameMethod → Value
frame_value t None = Method (codes "unset") None
frame_value t (Some (frames.Of m)) = entry_value t m
frame_value t (Some frames.Location) = Method (codes "location") None
frame_value t (Some frames.Target) = Method (codes "target") None

-- The number of a thread that gives a target or a frame.
abbrev pub thread_if : List ℕ → Option ℕ → List Field
thread_if name None = []
thread_if name (Some k) = field name (Number k) ∷ []

abbrev pub target_thread_of : Reference → Option ℕ
target_thread_of r = if target_by_thread r.fix.item then Some (target_bits r.fix.item) else None

abbrev pub frame_thread_of : Reference → Option ℕ
frame_thread_of r = if frame_by_thread r.fix.item then Some (bits r.fix.item 4 2) else None

abbrev pub displacement_if : Width → Option ℕ → List Field
displacement_if width None = []
displacement_if width (Some n) = field (codes "displacement") (Hex (digits width) n) ∷ []

-- A reference: target, displacement, frame, and the threads that gave them.
abbrev pub reference_fields : Tables → Width → Option FrameMethod → Option TargetMethod → Reference → List Field
reference_fields t width frame target r = field (codes "target") (target_value t target) ∷ (displacement_if width r.displacement
    ++ (field (codes "frame") (frame_value t frame) ∷ (thread_if (codes "target-thread") (target_thread_of r) ++ thread_if (codes "frame-thread") (frame_thread_of r))))

-- The place of a location in its segment, if it changes an LEDATA, else in its data; its bytes there, and at most four bytes before and after
-- them.
abbrev pub location_place : Option Data → ℕ → ℕ
location_place fixed locat = unwrap_or (option_map (λ d. d.offset) fixed) 0 + location_offset locat

abbrev pub bytes_before : List ℕ → ℕ → List ℕ
bytes_before bytes locat = drop (location_offset locat - 4) (take (location_offset locat) bytes)

abbrev pub location_bytes : List ℕ → ℕ → List ℕ
location_bytes bytes locat = take ((row_of (location_type locat)).size) (drop (location_offset locat) bytes)

abbrev pub bytes_after : List ℕ → ℕ → List ℕ
bytes_after bytes locat = take 4 (drop (location_offset locat + (row_of (location_type locat)).size) bytes)

abbrev pub marked_location : List ℕ → ℕ → Value
marked_location bytes locat = Marked (bytes_before bytes locat) (location_bytes bytes locat) (bytes_after bytes locat)

-- Where no LEDATA is changed, or its data are not known, no bytes are shown.
abbrev pub bytes_if : Option Data → ℕ → List Field
bytes_if None locat = []
bytes_if (Some d) locat = field (codes "bytes") (marked_location d.bytes locat) ∷ []

abbrev pub location_fields : Option Data → Width → ℕ → List Field
location_fields fixed width locat = field (codes "at") (Hex (digits width) (location_place fixed locat)) ∷ (bytes_if fixed locat
    ++ field (codes "location") (Word (location_word (location_type locat))) ∷ field (codes "self-relative") (Flag (not (is_segment_relative locat))) ∷ [])

-- A THREAD: its kind and number, and the method that it sets.
abbrev pub thread_fields : Tables → ℕ → Option (At ℕ) → List Field
thread_fields t byte datum =
    if thread_is_frame byte then field (codes "frame-thread") (Number (bits byte 0 2)) ∷ field (codes "frame") (frame_value t (Some (frame_by (frame_code (setting (thread_method byte) datum).method) (unwrap_or (setting (thread_method byte) datum).datum 0)))) ∷ []
    else field (codes "target-thread") (Number (bits byte 0 2)) ∷ field (codes "target") (target_value t (Some (record { kind = kind_of (setting (thread_method byte) datum).method; index = unwrap_or (setting (thread_method byte) datum).datum 0 }))) ∷ []

-- A subrecord of a FIXUPP, after these records' tables, data and subrecords.
abbrev pub subrecord_fields : Tables → Option Data → Width → List Subrecord → Subrecord → List Field
subrecord_fields t fixed width earlier (Thread byte datum) = thread_fields t byte datum
subrecord_fields t fixed width earlier (Fixup locat r) = location_fields fixed width locat ++ reference_fields t width (frame_of earlier r) (target_of earlier r) r

-- Items in their order, each by the number that it has, and by the subrecords before it.
abbrev pub numbered : {A : Type 0} → (ℕ → A → List Field) → ℕ → List (At A) → List Item
numbered fields i [] = []
numbered fields i (x ∷ xs) = item x.within (fields i x.item) ∷ numbered fields (i + 1) xs

abbrev pub each : {A : Type 0} → (A → List Field) → List (At A) → List Item
each fields xs = map (λ x. item x.within (fields x.item)) xs

abbrev pub subrecord_items : Tables → Option Data → Width → List Subrecord → List (At Subrecord) → List Item
subrecord_items t fixed width earlier [] = []
subrecord_items t fixed width earlier (x ∷ xs) = item x.within (subrecord_fields t fixed width earlier x.item) ∷ subrecord_items t fixed width (earlier ++ x.item ∷ []) xs

abbrev pub start_items : Tables → Width → List Subrecord → Option Reference → List Item
start_items t width earlier None = []
start_items t width earlier (Some r) = item r.fix.within (reference_fields t width (frame_of earlier r) (target_of earlier r) r) ∷ []

-- The length that the blocks of an LIDATA expand to, if they expand within the limits. (No record has more bytes of contents than 65,534.)
abbrev pub expanded_if : Width → List ℕ → List Field
expanded_if width blocks = if nat_le (length blocks) 65534 then length_if width (expanded_length (width_bytes width) profile_limits blocks) else []

-- All that is shown of the contents of a record, 32-bit or 16-bit, with this type byte, with the tables of the records before it. `subrecords`
-- and `starts` give the items of a FIXUPP and of a MODEND.
abbrev pub shown_with : (List (At Subrecord) → List Item) → (Option Reference → List Item) → Tables → Width → ℕ → Contents → Shown
shown_with subrecords starts t width kind (Header name) = only_fields (header_fields name)
shown_with subrecords starts t width kind (Comment byte class text) = record { fields = comment_fields byte class text; items = class_items t class text; block = None }
shown_with subrecords starts t width kind (Names items) = with_items [] (numbered name_fields (length t.names + 1) items)
shown_with subrecords starts t width kind (Segment s) = only_fields (segment_fields t (length t.segments + 1) width s)
shown_with subrecords starts t width kind (Group g) = with_items (group_fields t (length t.groups + 1) g.name) (each (member_fields t) g.members)
shown_with subrecords starts t width kind (Externs items) = with_items [] (numbered external_fields (length t.externals + 1) items)
shown_with subrecords starts t width kind (Publics p) = with_items (base_fields (group_entry t p.group.item) (segment_entry t p.segment.item) p.frame) (each (public_fields width) p.items)
shown_with subrecords starts t width kind (Communals items) = with_items [] (numbered communal_fields (length t.externals + 1) items)
shown_with subrecords starts t width kind (Plain d) = with_block (place_fields width (segment_entry t d.segment.item) d.offset.item ++ length_field width (length d.bytes)) d.offset.item d.bytes
shown_with subrecords starts t width kind (Iterated d) = with_items (place_fields width (segment_entry t d.segment.item) d.offset.item ++ expanded_if width d.bytes) (blocks_from width (d.offset.within + width_bytes width) [] 0 d.bytes)
shown_with subrecords starts t width kind (Fixups subs) = with_items [] (subrecords subs)
shown_with subrecords starts t width kind (ModEnd byte start) = with_items (end_flags byte) (starts start)
shown_with subrecords starts t width kind (Carried bytes) = raw_shown t kind bytes

-- The same after records with these tables, this data and these subrecords.
abbrev pub shown : Tables → Option Data → List Subrecord → ℕ → Contents → Shown
shown t fixed earlier kind c = shown_with (subrecord_items t fixed (width_of kind) earlier) (start_items t (width_of kind) earlier) t (width_of kind) kind c
