-- The tables that records define, in their order (TIS OMF 1.1, LNAMES, LLNAMES, SEGDEF, GRPDEF, EXTDEF, COMDEF, LEXTDEF, LCOMDEF).
-- Indices count from 1.
use Rattle.std.specs.Prelude.{ℕ, ◌-◌, ◌^◌, List, [], ◌∷◌, length, map, flat_map, sum_by, max, Bool, ◌&&◌, nat_le, Option, None, slice_get, if◌then◌else◌, ◌*◌}
use Rattle.omf_frame.specs.Bytes.{last}
use Rattle.omf_frame.specs.Types.{is_local}
use Rattle.omf_records.specs.Values.{Rec, Contents, Names, Segment, Group, Externs, Communals, Fixups, Plain, Iterated, SegmentItem, GroupItem, Subrecord, is_big, width}
use Rattle.omf_records.specs.declared.method.Kind.{Kind}
use Rattle.omf_records.specs.declared.method.Kind.TheVariants as kinds
use Rattle.omf_check.specs.declared.segment.SegInfo.{SegInfo}

-- The length of a segment in bytes: 2^16 for a big segment of 98H, 2^32 for one of 99H, else the length field.
abbrev pub segment_length : ℕ → SegmentItem → ℕ
segment_length kind s = if is_big s.attribute then 2 ^ (8 * width kind) else s.size

-- The entries that one record defines. LNAMES and LLNAMES share one index space; EXTDEF, COMDEF, LEXTDEF and LCOMDEF share another.
abbrev pub defined_names : Contents → List (List ℕ)
defined_names (Names items) = map (λ n. n.item) items
defined_names _ = []

abbrev pub defined_segments : ℕ → Contents → List SegInfo
defined_segments kind (Segment s) = (record { length = segment_length kind s; absolute = s.absolute; name = s.name.item; class = s.class.item }) ∷ []
defined_segments kind _ = []

abbrev pub attributes_in : Contents → List ℕ
attributes_in (Segment s) = s.attribute ∷ []
attributes_in _ = []

abbrev pub defined_groups : Contents → List GroupItem
defined_groups (Group g) = g ∷ []
defined_groups _ = []

abbrev pub defined_externals : Contents → List (List ℕ)
defined_externals (Externs items) = map (λ e. e.item.name) items
defined_externals (Communals items) = map (λ c. c.item.name) items
defined_externals _ = []

-- The tables after these records.
abbrev pub names : List Rec → List (List ℕ)
names rs = flat_map (λ r. defined_names r.contents) rs

abbrev pub segments : List Rec → List SegInfo
segments rs = flat_map (λ r. defined_segments r.kind r.contents) rs

-- The attribute byte of each segment.
abbrev pub attributes : List Rec → List ℕ
attributes rs = flat_map (λ r. attributes_in r.contents) rs

abbrev pub groups : List Rec → List GroupItem
groups rs = flat_map (λ r. defined_groups r.contents) rs

abbrev pub externals : List Rec → List (List ℕ)
externals rs = flat_map (λ r. defined_externals r.contents) rs

-- Whether each external is local.
abbrev pub locals : List Rec → List Bool
locals rs = flat_map (λ r. map (λ e. is_local r.kind) (defined_externals r.contents)) rs

-- The number of entries of the table of a kind.
abbrev pub entries : List Rec → Kind → ℕ
entries rs kinds.Segment = length (segments rs)
entries rs kinds.Group = length (groups rs)
entries rs kinds.External = length (externals rs)

-- Whether an index is that of an entry of a table of n entries; whether it is, or is 0 for none.
abbrev pub is_defined : ℕ → ℕ → Bool
is_defined n i = nat_le 1 i && nat_le i n

abbrev pub is_none_or_defined : ℕ → ℕ → Bool
is_none_or_defined n i = nat_le i n

-- The entry with index i, from 1.
abbrev pub entry : {A : Type 0} → List A → ℕ → Option A
entry xs i = if nat_le 1 i then slice_get xs (i - 1) else None

-- Items: one per subrecord of a FIXUPP, one per empty FIXUPP, one per other record (a rule of this profile).
abbrev pub items_in : Contents → ℕ
items_in (Fixups subs) = max 1 (length subs)
items_in _ = 1

abbrev pub item_count : List Rec → ℕ
item_count rs = sum_by (λ r. items_in r.contents) rs

-- The subrecords of all FIXUPP records.
abbrev pub subrecords_in : Contents → List Subrecord
subrecords_in (Fixups subs) = map (λ s. s.item) subs
subrecords_in _ = []

abbrev pub subrecords : List Rec → List Subrecord
subrecords rs = flat_map (λ r. subrecords_in r.contents) rs

-- The last data record: an LEDATA or an LIDATA.
abbrev pub data_in : Contents → List Contents
data_in (Plain d) = Plain d ∷ []
data_in (Iterated d) = Iterated d ∷ []
data_in _ = []

abbrev pub last_data : List Rec → Option Contents
last_data rs = last (flat_map (λ r. data_in r.contents) rs)
