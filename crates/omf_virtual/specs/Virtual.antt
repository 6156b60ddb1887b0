-- Virtual segments, as Borland's compilers write templates, inline functions and tables of virtual functions, and COMDATs in their place (TIS OMF 1.1, "COMDEF", "LEDATA",
-- "LIDATA", "FIXUPP", "COMDAT").
use Rattle.std.specs.Prelude.{ℕ, ◌+◌, ◌-◌, ◌%◌, ◌==◌, ◌&&◌, ◌||◌, not, nat_le, nat_lt, sum, Bool, false, List, [], ◌∷◌, ◌++◌, length, map, flat_map, replicate, take, drop, slice_get, Option, Some, None, is_some, option_map, Result, Ok, Err, if◌then◌else◌}
use Rattle.std.specs.List.{list_any}
use Rattle.byteorder.specs.Endian.{little_bytes}
use Rattle.omf_frame.specs.Bytes.{is_one_of, with_before}
use Rattle.omf_frame.specs.Fault.{Fault}
use Rattle.omf_frame.specs.Fields.{communal_length_bytes, index_bytes, name_bytes}
use Rattle.omf_frame.specs.Framing.{Raw, is_end, raw_of}
use Rattle.omf_frame.specs.Types.{comdef, extdef, lcomdef, ledata, lextdef, lidata, llnames, lnames, row}
use Rattle.omf_frame.specs.declared.kinds.RecordType.TheVariants.{Cextdef, Comdef}
-- computed: readings_meet_layouts and contents_are_typed_once of omf_records.
use Rattle.omf_records.specs.Inner.Reading.{read_body}
use Rattle.omf_records.specs.Inner.RecordReaders.{data_whole}
use Rattle.omf_records.specs.Inner.Reads.{or_none}
use Rattle.omf_records.specs.Shortest.{external_bytes, option_bytes}
use Rattle.omf_records.specs.Values.{At, Communals, Contents, DataItem, Externs, Names, frame_bits, is_wide, target_bits, thread_method, width}
use Rattle.omf_explicit.specs.Explicit.{distinct, is_fixupp, is_right, part_bytes, parts_read, place_in}
use Rattle.omf_explicit.specs.declared.part.Datum.{Datum}
use Rattle.omf_explicit.specs.declared.part.Datum.TheVariants as datums
use Rattle.omf_explicit.specs.declared.part.Part.{Part}
use Rattle.omf_explicit.specs.declared.part.Part.TheVariants as parts
use Rattle.omf_explicit.specs.declared.part.Reference.{Reference}
-- computed: readings_meet_layout of omf_virtual.
use Rattle.omf_virtual.specs.Inner.Readers.{comdef_whole}
use Rattle.omf_virtual.specs.Values.{Before, EntryItem, Table, VirtualItem}

-- ---- the externals and the virtual segments of a module

abbrev pub is_comdef : ℕ → Bool
is_comdef kind = is_one_of (row Comdef).bytes kind

abbrev pub is_cextdef : ℕ → Bool
is_cextdef kind = is_one_of (row Cextdef).bytes kind

-- The types of the records with external names that this profile reads.
abbrev pub is_external : ℕ → Bool
is_external kind = is_one_of (extdef ++ comdef ++ lextdef ++ lcomdef) kind

-- The entries of a COMDEF; none if its contents have a fault.
abbrev pub entries_of : List ℕ → List (At EntryItem)
entries_of body = or_none (comdef_whole.read 3 body)

-- The data types 01H to 5FH are the indices of segments: the communal is a virtual segment, and is put with that one.
abbrev pub is_segment : ℕ → Bool
is_segment data_type = nat_lt 0 data_type && nat_lt data_type 0x60

abbrev pub virtual_of : EntryItem → Option VirtualItem
virtual_of e = if is_segment e.data_type then Some (record { name = e.name; segment = e.data_type }) else None

-- The number of the external names in contents.
abbrev pub external_count : Contents → ℕ
external_count (Externs items) = length items
external_count (Communals items) = length items
external_count _ = 0

-- The externals of a record, and of records, in the order of their indices: each with its virtual segment, if it has one. A COMDEF with a virtual segment is not read by this
-- profile; what it reads has none.
abbrev pub externals_by : ℕ → List ℕ → Result Contents Fault → List (Option VirtualItem)
externals_by kind body (Ok c) = replicate (external_count c) None
externals_by kind body (Err e) = if is_comdef kind then map (λ e. virtual_of e.item) (entries_of body) else []

abbrev pub externals_in : Raw → List (Option VirtualItem)
externals_in r = if is_external r.kind then externals_by r.kind r.body (read_body r.kind r.body) else []

abbrev pub externals : List Raw → List (Option VirtualItem)
externals rs = flat_map externals_in rs

-- The index of a virtual segment is 4000H and the index of its external, which counts from 1.
abbrev pub segment_base : ℕ
segment_base = 0x4000

abbrev pub or_other : Option (Option VirtualItem) → Option VirtualItem
or_other (Some v) = v
or_other None = None

-- The virtual segment with an index.
abbrev pub virtual_at : List (Option VirtualItem) → ℕ → Option VirtualItem
virtual_at xs index = if nat_lt segment_base index then or_other (slice_get xs (index - (segment_base + 1))) else None

-- ---- data in virtual segments

abbrev pub is_lidata : ℕ → Bool
is_lidata kind = is_one_of lidata kind

abbrev pub is_data : ℕ → Bool
is_data kind = is_one_of (ledata ++ lidata) kind

-- The most bytes of an LEDATA or LIDATA whose data a COMDAT can have: it has six more before them.
abbrev pub data_limit : ℕ
data_limit = 65528

abbrev pub value_or_none : Result DataItem Fault → Option DataItem
value_or_none (Ok d) = Some d
value_or_none (Err e) = None

-- The data of an LEDATA or LIDATA. (With a wrong checksum byte it stays, and so is refused.)
abbrev pub data_of : Raw → Option DataItem
data_of r = if is_data r.kind && (is_right r && nat_le (length r.body) data_limit) then value_or_none ((data_whole (is_wide r.kind)).read 3 r.body) else None

-- The index of the virtual segment that a record has data of; of records, as often as they have data.
abbrev pub index_if : List (Option VirtualItem) → ℕ → List ℕ
index_if xs index = if is_some (virtual_at xs index) then index ∷ [] else []

abbrev pub index_of : List (Option VirtualItem) → Option DataItem → List ℕ
index_of xs (Some d) = index_if xs d.segment.item
index_of xs None = []

abbrev pub indices_in : List (Option VirtualItem) → Raw → List ℕ
indices_in xs r = index_of xs (data_of r)

abbrev pub indices : List (Option VirtualItem) → List Raw → List ℕ
indices xs rs = flat_map (indices_in xs) rs

-- ---- names

abbrev pub is_naming : ℕ → Bool
is_naming kind = is_one_of (lnames ++ llnames) kind

abbrev pub name_count : Contents → ℕ
name_count (Names items) = length items
name_count _ = 0

abbrev pub names_by : Result Contents Fault → ℕ
names_by (Ok c) = name_count c
names_by (Err e) = 0

-- The number of names that a record, and records, define.
abbrev pub names_in : Raw → ℕ
names_in r = if is_naming r.kind then names_by (read_body r.kind r.body) else 0

abbrev pub names : List Raw → ℕ
names rs = sum (map names_in rs)

-- The number of records up to the last LNAMES or LLNAMES (or, without one, of the header).
abbrev pub front_count : List Raw → ℕ
front_count [] = 0
front_count (r ∷ rs) = if list_any (λ x. is_naming x.kind) rs then 1 + front_count rs else 1

-- The LNAMES with the name of a virtual segment.
abbrev pub lnames_of : Option VirtualItem → List Raw
lnames_of (Some v) = raw_of 0x96 (name_bytes v.name) ∷ []
lnames_of None = []

abbrev pub lnames_in : Table → List Raw
lnames_in t = flat_map (λ i. lnames_of (virtual_at t.virtuals i)) t.filled

-- ---- records in place of others

-- A COMDEF and an EXTDEF of one entry.
abbrev pub entry_bytes : EntryItem → List ℕ
entry_bytes e = name_bytes e.name ++ (index_bytes e.type_index ++ e.data_type ∷ (communal_length_bytes e.count ++ option_bytes communal_length_bytes e.element))

abbrev pub comdef_of : EntryItem → Raw
comdef_of e = raw_of 0xB0 (entry_bytes e)

abbrev pub extdef_of : EntryItem → Raw
extdef_of e = raw_of 0x8C (external_bytes (record { name = e.name; type_index = e.type_index }))

-- An external has data in its virtual segment. (An index has 15 bits.)
abbrev pub has_data : Table → ℕ → Bool
has_data t index = nat_lt index segment_base && is_one_of t.filled (segment_base + index)

-- The record in place of an entry with the index of an external: an EXTDEF for a virtual segment with data, since the COMDAT defines the name; a near communal of its
-- length for one without (this profile's rule).
abbrev pub entry_record : Table → ℕ → EntryItem → Raw
entry_record t index e =
    if not (is_segment e.data_type) then comdef_of e
    else if has_data t index then extdef_of e
    else comdef_of (record e { data_type = 0x62 })

-- The records in place of entries, after this many externals: one for each, so that all indices stay.
abbrev pub entry_records : Table → ℕ → List (At EntryItem) → List Raw
entry_records t before [] = []
entry_records t before (e ∷ es) = entry_record t (before + 1) e.item ∷ entry_records t (before + 1) es

abbrev pub comdef_in_place : Table → Before → Raw → List Raw
comdef_in_place t b r = if is_right r && list_any (λ x. is_some x) (externals_in r) then entry_records t b.passed (entries_of r.body) else r ∷ []

-- A COMDAT's flags: 01H, it continues one before; 02H, its data are blocks.
abbrev pub flags_of : Bool → Bool → ℕ
flags_of continued iterated = (if continued then 1 else 0) + (if iterated then 2 else 0)

-- The contents of a COMDAT: flags; selection "pick any" and an explicit allocation; the alignment of the segment; the offset of the data; no type; no group; the segment;
-- the name; the data (TIS OMF 1.1, "COMDAT").
abbrev pub comdat_bytes : ℕ → ℕ → ℕ → ℕ → DataItem → List ℕ
comdat_bytes kind flags segment name d =
    flags ∷ 0x10 ∷ 0 ∷ (little_bytes (width kind) d.offset.item ++ (index_bytes 0 ++ (index_bytes 0 ++ (index_bytes segment ++ (index_bytes name ++ d.bytes)))))

-- The COMDAT in place of data of a virtual segment. Its fields have the width of the record's; it continues one of the same virtual segment before it. The
-- indices of the names are after the module's own.
abbrev pub comdat_of : Table → Before → ℕ → DataItem → VirtualItem → Raw
comdat_of t b kind d v =
    raw_of (0xC2 + kind % 2) (comdat_bytes kind (flags_of (is_one_of b.filled d.segment.item) (is_lidata kind)) v.segment (t.last_name + place_in t.filled d.segment.item) d)

abbrev pub comdat_if : Table → Before → Raw → DataItem → Option VirtualItem → Raw
comdat_if t b r d (Some v) = comdat_of t b r.kind d v
comdat_if t b r d None = r

abbrev pub data_in_place : Table → Before → Raw → Option DataItem → Raw
data_in_place t b r (Some d) = comdat_if t b r d (virtual_at t.virtuals d.segment.item)
data_in_place t b r None = r

-- The THREADs and FIXUPs of a FIXUPP, or the one part of a MODEND.
abbrev pub parts_of : Raw → List (At Part)
parts_of r = if is_right r && (is_end r.kind || is_fixupp r.kind) then parts_read r else []

abbrev pub is_virtual : List (Option VirtualItem) → Option Datum → Bool
is_virtual xs (Some (datums.Index i)) = is_some (virtual_at xs i)
is_virtual xs _ = false

-- A frame or a target of method 0 (a target with or without a displacement), and a THREAD of method 0, with a virtual segment.
abbrev pub has_virtual_frame : List (Option VirtualItem) → Reference → Bool
has_virtual_frame xs r = (frame_bits r.fix == 0) && is_virtual xs r.frame

abbrev pub has_virtual_target : List (Option VirtualItem) → Reference → Bool
has_virtual_target xs r = (target_bits r.fix == 0) && is_virtual xs r.target

abbrev pub is_virtual_thread : List (Option VirtualItem) → ℕ → Option Datum → Bool
is_virtual_thread xs first datum = (thread_method first == 0) && is_virtual xs datum

abbrev pub names_virtual_in : List (Option VirtualItem) → Reference → Bool
names_virtual_in xs r = has_virtual_frame xs r || has_virtual_target xs r

abbrev pub names_virtual : List (Option VirtualItem) → Part → Bool
names_virtual xs (parts.Thread first datum) = is_virtual_thread xs first datum
names_virtual xs (parts.Fixup location r) = names_virtual_in xs r
names_virtual xs (parts.Start first (Some r)) = names_virtual_in xs r
names_virtual xs (parts.Start first None) = false

-- The index of the external in place of the index of its virtual segment.
abbrev pub external_datum : Datum → Datum
external_datum (datums.Index i) = datums.Index (i - segment_base)
external_datum (datums.Number n) = datums.Number n

abbrev pub external_if : Bool → Option Datum → Option Datum
external_if b datum = if b then option_map external_datum datum else datum

-- A byte with these bits, which it has clear: method 0, a segment, becomes method 2, an external.
abbrev pub with_bits : ℕ → ℕ → Bool → ℕ
with_bits byte bits b = if b then byte + bits else byte

-- The frame's method is in bits 6 to 4 of the fix data byte, the target's in bits 1 and 0; the method of a THREAD in bits 3 and 2 (and 4) of its first byte.
abbrev pub external_reference : List (Option VirtualItem) → Reference → Reference
external_reference xs r = record {
  fix = with_bits (with_bits r.fix 0x20 (has_virtual_frame xs r)) 0x02 (has_virtual_target xs r);
  frame = external_if (has_virtual_frame xs r) r.frame;
  target = external_if (has_virtual_target xs r) r.target;
  displacement = r.displacement;
}

abbrev pub external_part : List (Option VirtualItem) → Part → Part
external_part xs (parts.Thread first datum) = parts.Thread (with_bits first 0x08 (is_virtual_thread xs first datum)) (external_if (is_virtual_thread xs first datum) datum)
external_part xs (parts.Fixup location r) = parts.Fixup location (external_reference xs r)
external_part xs (parts.Start first r) = parts.Start first (option_map (external_reference xs) r)

abbrev pub references_in_place : List (Option VirtualItem) → Raw → Raw
references_in_place xs r =
    if list_any (λ p. names_virtual xs p.item) (parts_of r) then raw_of r.kind (flat_map (λ p. part_bytes r.kind (external_part xs p.item)) (parts_of r)) else r

-- The records in place of a record, by what the module has up to it. All others stay.
abbrev pub in_place : Table → Before → Raw → List Raw
in_place t b r =
    if is_comdef r.kind then comdef_in_place t b r
    else if is_data r.kind then data_in_place t b r (data_of r) ∷ []
    else references_in_place t.virtuals r ∷ []

-- ---- modules

-- What a module has up to the record after these.
abbrev pub so_far : List (Option VirtualItem) → List Raw → Before
so_far xs rs = record { passed = length (externals rs); filled = distinct (indices xs rs) }

abbrev pub replaced : Table → List Raw → Raw → List Raw
replaced t before r = in_place t (so_far t.virtuals before) r

abbrev pub table : List Raw → Table
table rs = record { virtuals = externals rs; last_name = names rs; filled = distinct (indices (externals rs) rs) }

-- A module's records, with COMDATs in place of virtual segments, and the LNAMES of these after the module's names.
abbrev pub comdats_by : Table → ℕ → List Raw → List Raw
comdats_by t n rs = with_before (replaced t) [] (take n rs) ++ lnames_in t ++ with_before (replaced t) (take n rs) (drop n rs)

abbrev pub with_comdats : List Raw → List Raw
with_comdats rs = comdats_by (table rs) (front_count rs) rs

-- Records get COMDATs if they have a virtual segment; if the names of the COMDATs have indices too; and if no data of a virtual segment come before a name. A CEXTDEF
-- has externals too, but Borland's compilers write none: a module with one stays (this profile's rule).
abbrev pub is_ordered : List (Option VirtualItem) → List Raw → Bool
is_ordered xs rs = length (indices xs (take (front_count rs) rs)) == 0

abbrev pub has_room : List Raw → Bool
has_room rs = nat_le (names rs + length (table rs).filled) 32767

abbrev pub gets_comdats : List Raw → Bool
gets_comdats rs = list_any (λ x. is_some x) (externals rs) && (not (list_any (λ r. is_cextdef r.kind) rs) && (is_ordered (externals rs) rs && has_room rs))
