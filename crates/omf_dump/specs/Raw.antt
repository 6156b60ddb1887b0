-- What is shown of a record by its bytes alone: the fields of its layout, one after another, as far as they go.
use Rattle.std.specs.Prelude.{ℕ, zero, suc, ◌+◌, ◌-◌, ◌*◌, ◌/◌, ◌%◌, List, [], ◌∷◌, ◌++◌, length, take, drop, Bool, true, false, not, ◌==◌, ◌&&◌, ◌||◌, nat_le, nat_lt, is_some, unwrap_or, Option, Some, None, codes, if◌then◌else◌}
use Rattle.omf_frame.specs.Bytes.{bits, has_bit}
use Rattle.omf_frame.specs.Types.{width_bytes, width_of, type_of}
use Rattle.omf_frame.specs.declared.kinds.RecordType.{RecordType}
use Rattle.omf_frame.specs.declared.kinds.RecordType.TheVariants.{Coment, Ledata, Lidata, Comdat, Vendext}
use Rattle.omf_frame.specs.declared.kinds.Width.{Width}
use Rattle.omf_dump.specs.Blocks.{blocks_from}
use Rattle.omf_records.specs.Values.{alignment, combination, is_big, is_use32}
use Rattle.omf_dump.specs.Fields.{Number, Hex, Word, Characters, Bytes, Named, Method, Flag, Field, field, Item, item, Block, Shown, with_block}
use Rattle.omf_dump.specs.Known.{Tables, name_entry, segment_entry, group_entry, external_entry}
use Rattle.omf_dump.specs.Layouts.{head_steps, item_steps, row}
use Rattle.omf_dump.specs.Render.{digits}
use Rattle.omf_dump.specs.Words.{alignment_word, class_word, combination_word, library_end, location_word, word_in}
use Rattle.omf_dump.specs.declared.step.Kind.{Kind}
use Rattle.omf_dump.specs.declared.step.Kind.TheVariants as kind
use Rattle.omf_dump.specs.declared.step.Step.{Step}
use Rattle.omf_dump.specs.declared.step.Step.TheVariants as step
use Rattle.omf_dump.specs.declared.step.When.{When}
use Rattle.omf_dump.specs.declared.step.When.TheVariants as when

-- If n bytes are there, n is the size of a field.
abbrev pub if_there : ℕ → List ℕ → Option ℕ
if_there n bytes = if nat_le n (length bytes) then Some n else None

-- An index has one byte, or two if bit 7 of the first is set.
abbrev pub index_size : List ℕ → Option ℕ
index_size [] = None
index_size (b ∷ bytes) = if nat_lt b 128 then Some 1 else if_there 2 (b ∷ bytes)

-- A name has a length byte before it.
abbrev pub name_size : List ℕ → Option ℕ
name_size [] = None
name_size (n ∷ bytes) = if_there (n + 1) (n ∷ bytes)

-- A communal's length: up to 80H the byte itself; after 81H, 84H and 88H two, three and four bytes (TIS OMF 1.1, "COMDEF").
abbrev pub count_bytes : ℕ → ℕ
count_bytes b = if b == 0x81 then 3 else if b == 0x84 then 4 else if b == 0x88 then 5 else 1

abbrev pub count_size : List ℕ → Option ℕ
count_size [] = None
count_size (b ∷ bytes) = if_there (count_bytes b) (b ∷ bytes)

-- The number of bytes of the field at the front. None: they are not all there.
abbrev pub size_of : Width → Kind → List ℕ → Option ℕ
size_of w kind.Decimal bytes = if_there 2 bytes
size_of w kind.Short bytes = if_there 2 bytes
size_of w kind.Location bytes = if_there 2 bytes
size_of w kind.Long bytes = if_there 4 bytes
size_of w kind.Wide bytes = if_there (width_bytes w) bytes
size_of w kind.Count bytes = count_size bytes
size_of w kind.Counted bytes = name_size bytes
size_of w kind.Version bytes = Some (length bytes)
size_of w kind.Bytes bytes = Some (length bytes)
size_of w kind.Type bytes = index_size bytes
size_of w kind.Name bytes = index_size bytes
size_of w kind.Segment bytes = index_size bytes
size_of w kind.Group bytes = index_size bytes
size_of w kind.External bytes = index_size bytes
size_of w kind.OfSegment bytes = index_size bytes
size_of w kind.OfGroup bytes = index_size bytes
size_of w kind.OfExternal bytes = index_size bytes
size_of w kind.Small bytes = if_there 1 bytes
size_of w kind.ComdatFlags bytes = if_there 1 bytes
size_of w kind.Selection bytes = if_there 1 bytes
size_of w kind.ComdatAlign bytes = if_there 1 bytes
size_of w kind.Attributes bytes = if_there 1 bytes
size_of w kind.LineFlags bytes = if_there 1 bytes
size_of w kind.CommentFlags bytes = if_there 1 bytes
size_of w kind.CommentClass bytes = if_there 1 bytes
size_of w kind.EndFlags bytes = if_there 1 bytes
size_of w kind.Patch bytes = if_there 1 bytes
size_of w kind.Leaf bytes = if_there 1 bytes
size_of w kind.Variable bytes = if_there 1 bytes
size_of w kind.Communal bytes = if_there 1 bytes
size_of w kind.Thread bytes = if_there 1 bytes
size_of w kind.Fix bytes = if_there 1 bytes

-- The value of a field's bytes: little-endian; an index; a communal's length; a location, which is big-endian.
abbrev pub little : List ℕ → ℕ
little [] = 0
little (a ∷ []) = a
little (a ∷ b ∷ []) = a + 256 * b
little (a ∷ b ∷ c ∷ []) = a + 256 * b + 65536 * c
little (a ∷ b ∷ c ∷ d ∷ _) = a + 256 * b + 65536 * (c + 256 * d)

abbrev pub index_of : List ℕ → ℕ
index_of (a ∷ b ∷ _) = (a - 128) * 256 + b
index_of (a ∷ []) = a
index_of [] = 0

abbrev pub count_of : List ℕ → ℕ
count_of [] = 0
count_of (a ∷ []) = a
count_of (a ∷ b ∷ bytes) = little (b ∷ bytes)

abbrev pub first_of : List ℕ → ℕ
first_of [] = 0
first_of (a ∷ _) = a

abbrev pub locat_of : List ℕ → ℕ
locat_of (a ∷ b ∷ _) = 256 * a + b
locat_of _ = 0

abbrev pub after_first : List ℕ → List ℕ
after_first [] = []
after_first (_ ∷ bytes) = bytes

-- What a field leaves for the fields after it: a segment's index, and bytes that decide what follows. A THREAD leaves the fix data that ask for
-- the same datum: its frame and no target, or its target and no frame.
abbrev pub thread_fix : ℕ → ℕ
thread_fix b = if has_bit b 6 then 16 * bits b 2 3 + 12 else 132 + bits b 2 2

abbrev pub left_by : Step → List ℕ → ℕ → ℕ
left_by step.Segment bytes last = index_of bytes
left_by step.ExplicitSegment bytes last = index_of bytes
left_by step.Selection bytes last = first_of bytes
left_by step.Attributes bytes last = first_of bytes
left_by step.Communal bytes last = first_of bytes
left_by step.Component bytes last = first_of bytes
left_by step.Leaf bytes last = first_of bytes
left_by step.Fix bytes last = first_of bytes
left_by step.Thread bytes last = thread_fix (first_of bytes)
left_by _ bytes last = last

-- Whether a record has a field, by what the fields before left. From 1 to 5FH a communal is Borland's, in the segment with this index.
abbrev pub is_near : ℕ → Bool
is_near n = n == 0x62 || (nat_lt 0 n && nat_lt n 0x60)

abbrev pub is_there : When → ℕ → Bool
is_there when.Always last = true
is_there when.Zero last = last == 0
is_there when.Explicit last = last % 16 == 0
is_there when.Absolute last = nat_lt last 32
is_there when.Near last = is_near last
is_there when.Far last = last == 0x61
is_there (when.Component n) last = last == n
is_there when.OtherComponent last = nat_lt last 0xFE
is_there (when.Frame m) last = last / 16 == m
is_there (when.Target m) last = bits last 3 1 == 0 && bits last 0 2 == m
is_there when.Displaced last = bits last 2 1 == 0

-- SEGDEF's attributes, ACBP: alignment, combination, use (P), big (B).
abbrev pub attribute_fields : ℕ → List Field
attribute_fields byte = field (codes "align") (Word (alignment_word (alignment byte))) ∷ field (codes "combine") (Word (combination_word (combination byte)))
    ∷ field (codes "use") (Number (if is_use32 byte then 32 else 16)) ∷ field (codes "big") (Flag (is_big byte)) ∷ []

abbrev pub named_attributes : List ℕ → ℕ → List Field
named_attributes name byte = field name (Hex 2 byte) ∷ attribute_fields byte

-- COMDAT: continuation, iterated data, local, data in a code segment.
abbrev pub comdat_flags : ℕ → List Field
comdat_flags b = field (codes "flags") (Hex 2 b) ∷ field (codes "continued") (Flag (has_bit b 0)) ∷ field (codes "iterated") (Flag (has_bit b 1))
    ∷ field (codes "local") (Flag (has_bit b 2)) ∷ field (codes "in-code") (Flag (has_bit b 3)) ∷ []

-- COMDAT, attributes: the selection criterion and the allocation type.
abbrev pub selections : List (ℕ × List ℕ)
selections = (0, codes "no-match") ∷ (1, codes "pick-any") ∷ (2, codes "same-size") ∷ (3, codes "exact-match") ∷ []

abbrev pub allocations : List (ℕ × List ℕ)
allocations = (0, codes "explicit") ∷ (1, codes "far-code") ∷ (2, codes "far-data") ∷ (3, codes "code32") ∷ (4, codes "data32") ∷ []

abbrev pub comdat_attributes : ℕ → List Field
comdat_attributes b = field (codes "selection") (Word (word_in selections (codes "reserved") (b / 16))) ∷ field (codes "allocation") (Word (word_in allocations (codes "reserved") (b % 16))) ∷ []

-- COMDAT, align: 0 is as the segment's.
abbrev pub comdat_aligns : List (ℕ × List ℕ)
comdat_aligns = (0, codes "segment") ∷ (1, codes "byte") ∷ (2, codes "word") ∷ (3, codes "paragraph") ∷ (4, codes "page") ∷ (5, codes "dword") ∷ []

-- BAKPAT, NBKPAT: location type. TYPDEF: leaf, type of variable. COMDEF: data type.
abbrev pub patches : List (ℕ × List ℕ)
patches = (0, codes "byte") ∷ (1, codes "word") ∷ (2, codes "dword") ∷ []

abbrev pub leaves : List (ℕ × List ℕ)
leaves = (0x61, codes "far") ∷ (0x62, codes "near") ∷ []

abbrev pub variables : List (ℕ × List ℕ)
variables = (0x77, codes "array") ∷ (0x79, codes "structure") ∷ (0x7B, codes "scalar") ∷ []

abbrev pub communal_kind : ℕ → List Field
communal_kind b = field (codes "communal") (Word (word_in leaves (codes "other") b)) ∷ field (codes "kind") (Hex 2 b) ∷ []

-- Bytes of flags.
abbrev pub line_flags : ℕ → List Field
line_flags b = field (codes "flags") (Hex 2 b) ∷ field (codes "continued") (Flag (has_bit b 0)) ∷ []

abbrev pub comment_flags : ℕ → List Field
comment_flags b = field (codes "flags") (Hex 2 b) ∷ field (codes "no-purge") (Flag (has_bit b 7)) ∷ field (codes "no-list") (Flag (has_bit b 6)) ∷ []

abbrev pub comment_class : ℕ → List Field
comment_class b = field (codes "class") (Hex 2 b) ∷ field (codes "meaning") (Word (class_word b)) ∷ []

abbrev pub end_flags : ℕ → List Field
end_flags b = field (codes "flags") (Hex 2 b) ∷ field (codes "main") (Flag (has_bit b 7)) ∷ field (codes "has-start") (Flag (has_bit b 6)) ∷ []

-- FIXUPP: a frame method without a datum. Methods 6 and 7 are reserved (TIS OMF 1.1, "FIXUPP").
abbrev pub methods : List (ℕ × List ℕ)
methods = (4, codes "location") ∷ (5, codes "target") ∷ []

abbrev pub method_if : ℕ → List Field
method_if m = if nat_lt m 4 then [] else field (codes "frame") (Method (word_in methods (codes "reserved") m) None) ∷ []

-- A THREAD: its number. Fix data: the numbers of the threads that give frame and target.
abbrev pub thread_number : ℕ → List Field
thread_number b =
    if has_bit b 6 then field (codes "frame-thread") (Number (bits b 0 2)) ∷ method_if (bits b 2 3)
    else field (codes "target-thread") (Number (bits b 0 2)) ∷ []

abbrev pub fix_frame : ℕ → List Field
fix_frame b = if has_bit b 7 then field (codes "frame-thread") (Number (bits b 4 2)) ∷ [] else method_if (bits b 4 3)

abbrev pub fix_target : ℕ → List Field
fix_target b = if has_bit b 3 then field (codes "target-thread") (Number (bits b 0 2)) ∷ [] else []

-- A fixup's location: its offset in the data, its type, and whether it is relative to itself.
abbrev pub locat_fields : Width → ℕ → List Field
locat_fields w n = field (codes "at") (Hex (digits w) (bits n 0 10)) ∷ field (codes "location") (Word (location_word (bits n 10 4))) ∷ field (codes "self-relative") (Flag (not (has_bit n 14))) ∷ []

-- VERNUM: the version, after a length byte if the first byte is one.
abbrev pub version_of : List ℕ → List ℕ
version_of [] = []
version_of (n ∷ bytes) = if n == length bytes then bytes else n ∷ bytes

-- What is shown of a field: its bytes are these.
abbrev pub value_fields : Tables → Width → List ℕ → Kind → List ℕ → List Field
value_fields t w name kind.Small bytes = field name (Hex 2 (first_of bytes)) ∷ []
value_fields t w name kind.Decimal bytes = field name (Number (little bytes)) ∷ []
value_fields t w name kind.Short bytes = field name (Hex 4 (little bytes)) ∷ []
value_fields t w name kind.Wide bytes = field name (Hex (digits w) (little bytes)) ∷ []
value_fields t w name kind.Long bytes = field name (Hex 8 (little bytes)) ∷ []
value_fields t w name kind.Count bytes = field name (Hex 4 (count_of bytes)) ∷ []
value_fields t w name kind.Counted bytes = field name (Characters (after_first bytes)) ∷ []
value_fields t w name kind.Version bytes = field name (Characters (version_of bytes)) ∷ []
value_fields t w name kind.Bytes bytes = field name (Bytes bytes) ∷ []
value_fields t w name kind.Type bytes = field name (Number (index_of bytes)) ∷ []
value_fields t w name kind.Name bytes = field name (Named (name_entry t (index_of bytes))) ∷ []
value_fields t w name kind.Segment bytes = field name (Named (segment_entry t (index_of bytes))) ∷ []
value_fields t w name kind.Group bytes = field name (Named (group_entry t (index_of bytes))) ∷ []
value_fields t w name kind.External bytes = field name (Named (external_entry t (index_of bytes))) ∷ []
value_fields t w name kind.OfSegment bytes = field name (Method (codes "segment") (Some (segment_entry t (index_of bytes)))) ∷ []
value_fields t w name kind.OfGroup bytes = field name (Method (codes "group") (Some (group_entry t (index_of bytes)))) ∷ []
value_fields t w name kind.OfExternal bytes = field name (Method (codes "external") (Some (external_entry t (index_of bytes)))) ∷ []
value_fields t w name kind.ComdatFlags bytes = comdat_flags (first_of bytes)
value_fields t w name kind.Selection bytes = comdat_attributes (first_of bytes)
value_fields t w name kind.ComdatAlign bytes = field name (Word (word_in comdat_aligns (codes "reserved") (first_of bytes))) ∷ []
value_fields t w name kind.Attributes bytes = named_attributes name (first_of bytes)
value_fields t w name kind.LineFlags bytes = line_flags (first_of bytes)
value_fields t w name kind.CommentFlags bytes = comment_flags (first_of bytes)
value_fields t w name kind.CommentClass bytes = comment_class (first_of bytes)
value_fields t w name kind.EndFlags bytes = end_flags (first_of bytes)
value_fields t w name kind.Patch bytes = field name (Word (word_in patches (codes "reserved") (first_of bytes))) ∷ []
value_fields t w name kind.Leaf bytes = field name (Word (word_in leaves (codes "other") (first_of bytes))) ∷ []
value_fields t w name kind.Variable bytes = field name (Word (word_in variables (codes "other") (first_of bytes))) ∷ []
value_fields t w name kind.Communal bytes = communal_kind (first_of bytes)
value_fields t w name kind.Thread bytes = thread_number (first_of bytes)
value_fields t w name kind.Fix bytes = fix_frame (first_of bytes) ++ fix_target (first_of bytes)
value_fields t w name kind.Location bytes = locat_fields w (locat_of bytes)

abbrev pub step_fields : Tables → Width → Step → List ℕ → List Field
step_fields t w s bytes = value_fields t w (row s).name (row s).kind bytes

-- A field of which not all bytes are there: the bytes that are.
abbrev pub left_if : List ℕ → List Field
left_if [] = []
left_if (b ∷ bytes) = field (codes "left") (Bytes (b ∷ bytes)) ∷ []

abbrev pub cut_fields : List ℕ → List Field
cut_fields bytes = field (codes "cut") (Flag true) ∷ left_if bytes

-- The field at the front: its size, if all of it is there, and its bytes.
abbrev pub size_here : Width → Step → List ℕ → Option ℕ
size_here w s bytes = size_of w (row s).kind bytes

abbrev pub step_size : Width → Step → List ℕ → ℕ
step_size w s bytes = unwrap_or (size_here w s bytes) 0

abbrev pub step_bytes : Width → Step → List ℕ → List ℕ
step_bytes w s bytes = take (step_size w s bytes) bytes

-- The fields of a layout, from the front of the bytes on, and how many bytes they take. After a field that is cut there are no others.
abbrev pub steps_fields : Tables → Width → ℕ → List Step → List ℕ → List Field
steps_fields t w last [] bytes = []
steps_fields t w last (s ∷ ss) bytes =
    if is_there (row s).when last then (if is_some (size_here w s bytes) then
    step_fields t w s (step_bytes w s bytes) ++ steps_fields t w (left_by s (step_bytes w s bytes) last) ss (drop (step_size w s bytes) bytes)
    else cut_fields bytes)
    else steps_fields t w last ss bytes

abbrev pub steps_size : Width → ℕ → List Step → List ℕ → ℕ
steps_size w last [] bytes = 0
steps_size w last (s ∷ ss) bytes =
    if is_there (row s).when last then (if is_some (size_here w s bytes) then
    step_size w s bytes + steps_size w (left_by s (step_bytes w s bytes) last) ss (drop (step_size w s bytes) bytes)
    else length bytes)
    else steps_size w last ss bytes

-- The fields of an item, by its first byte, and how many bytes they take.
abbrev pub item_fields : Tables → Width → RecordType → List ℕ → List Field
item_fields t w kind bytes = steps_fields t w 0 (item_steps kind (first_of bytes)) bytes

abbrev pub item_size : Width → RecordType → List ℕ → ℕ
item_size w kind bytes = steps_size w 0 (item_steps kind (first_of bytes)) bytes

-- The items of a record from an offset on. The first `skipped` bytes are those of the item before.
abbrev pub items_from : Tables → Width → RecordType → ℕ → ℕ → List ℕ → List Item
items_from t w kind within skipped [] = []
items_from t w kind within (suc skipped) (b ∷ bytes) = items_from t w kind (within + 1) skipped bytes
items_from t w kind within zero (b ∷ bytes) =
    item within (item_fields t w kind (b ∷ bytes)) ∷ items_from t w kind (within + 1) (item_size w kind (b ∷ bytes) - 1) bytes

-- What follows the fields at the beginning: bytes, blocks, or items, by the first byte of the contents. The data of a COMDAT are blocks if they are iterated.
abbrev pub has_bytes : RecordType → ℕ → Bool
has_bytes Coment first = true
has_bytes Ledata first = true
has_bytes Comdat first = not (has_bit first 1)
has_bytes Vendext first = true
has_bytes _ first = false

abbrev pub has_blocks : RecordType → ℕ → Bool
has_blocks Lidata first = true
has_blocks Comdat first = has_bit first 1
has_blocks _ first = false

-- The offset that a COMDAT's data have in their segment, after three bytes: flags, attributes, align (TIS OMF 1.1, "COMDAT").
abbrev pub comdat_offset : Width → List ℕ → ℕ
comdat_offset w body = little (take (width_bytes w) (drop 3 body))

-- The offset of the first of the bytes: of a COMDAT's in their segment, else in the record.
abbrev pub is_comdat : RecordType → Bool
is_comdat Comdat = true
is_comdat _ = false

abbrev pub first_offset : Width → RecordType → ℕ → List ℕ → ℕ
first_offset w kind within body = if is_comdat kind then comdat_offset w body else within

-- What follows, from an offset in the record on; `body` are the whole contents.
abbrev pub rest_items : Tables → Width → RecordType → ℕ → List ℕ → List ℕ → Option (List Item)
rest_items t w kind within body bytes = if has_bytes kind (first_of body) then None else if has_blocks kind (first_of body) then Some (blocks_from w within [] 0 bytes) else Some (items_from t w kind within 0 bytes)

abbrev pub rest_block : Width → RecordType → ℕ → List ℕ → List ℕ → Option Block
rest_block w kind within body bytes = if has_bytes kind (first_of body) then Some (record { first = first_offset w kind within body; bytes = bytes }) else None

abbrev pub head_fields : Tables → Width → RecordType → List ℕ → List Field
head_fields t w kind bytes = steps_fields t w 0 (head_steps kind) bytes

abbrev pub head_size : Width → RecordType → List ℕ → ℕ
head_size w kind bytes = steps_size w 0 (head_steps kind) bytes

abbrev pub type_shown : Tables → Width → RecordType → List ℕ → Shown
type_shown t w kind bytes = record {
  fields = head_fields t w kind bytes;
  items = rest_items t w kind (3 + head_size w kind bytes) bytes (drop (head_size w kind bytes) bytes);
  block = rest_block w kind (3 + head_size w kind bytes) bytes (drop (head_size w kind bytes) bytes);
}

-- The type with the fields of a record; the end of a library has none.
abbrev pub fields_type : ℕ → Option RecordType
fields_type kind = if kind == library_end then None else type_of kind

-- All that is shown of contents that are not read. Contents of an unknown type are bytes.
abbrev pub shown_if : Tables → Width → Option RecordType → List ℕ → Shown
shown_if t w None bytes = with_block [] 3 bytes
shown_if t w (Some kind) bytes = type_shown t w kind bytes

abbrev pub raw_shown : Tables → ℕ → List ℕ → Shown
raw_shown t kind bytes = shown_if t (width_of kind) (fields_type kind) bytes
