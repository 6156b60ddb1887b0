-- The rules of a record, given the records before it. Each rule has the place and the reason of its fault.
use Rattle.std.specs.Prelude.{ℕ, ◌+◌, List, [], ◌∷◌, ◌++◌, length, map, Bool, true, false, not, ◌||◌, ◌==◌, nat_le, nat_lt, Option, Some, None, unwrap_or, option_map}
use Rattle.std.specs.List.{enumerate_from}
use Rattle.omf_frame.specs.Bytes.{with_before}
use Rattle.omf_frame.specs.Fault.{Rule, rule}
use Rattle.omf_frame.specs.declared.fault.Reason.{Reason}
use Rattle.omf_frame.specs.declared.fault.Reason.TheVariants as reason
use Rattle.omf_records.specs.Location.{row_of}
use Rattle.omf_records.specs.Values.{At, Rec, Contents, Comment, Names, Segment, Group, Externs, Publics, Communals, Plain, Iterated, Fixups, ModEnd, DataItem, Subrecord, Thread, Fixup, Reference, width, location_type, location_offset}
use Rattle.omf_image.specs.Blocks.{blocks_size}
-- computed: blocks_are_read and lengths_are_decided of omf_image.
use Rattle.omf_image.specs.Inner.Expanding.{blocks_of}
use Rattle.omf_image.specs.declared.limits.Limits.{Limits}
use Rattle.omf_check.specs.Tables.{names, segments, groups, externals, is_defined, is_none_or_defined, entry, item_count, subrecords, last_data, entries}
use Rattle.omf_check.specs.Threads.{Kind, FrameMethod, Of, F4, TargetMethod, frame_of, target_of}
use Rattle.omf_records.specs.declared.method.Kind.TheVariants as kinds
use Rattle.omf_check.specs.declared.profile.Profile.{Profile}

-- The limits of this profile: entries of each table, and items of a module.
abbrev pub table_limit : ℕ
table_limit = 32767

abbrev pub item_limit : ℕ
item_limit = 1048576

-- The entries that a record adds, at these places, fit a table that has `taken` entries already.
abbrev pub room : ℕ → ℕ → List ℕ → List Rule
room limit taken places = map (λ p. rule (nat_lt (taken + p.0) limit) p.1 reason.TooMany) (enumerate_from 0 places)

-- The places of some items. The places of a record's items: those of the subrecords of a FIXUPP; 0 for every other record.
abbrev pub places : {A : Type 0} → List (At A) → List ℕ
places items = map (λ a. a.within) items

abbrev pub item_places : Contents → List ℕ
item_places (Fixups (s ∷ subs)) = places (s ∷ subs)
item_places _ = 0 ∷ []

-- An index is that of an entry of a table of n entries; or of an entry or 0, for none.
abbrev pub names_entry : ℕ → Reason → At ℕ → Rule
names_entry n r index = rule (is_defined n index.item) index.within r

abbrev pub names_entry_or_none : ℕ → Reason → At ℕ → Rule
names_entry_or_none n r index = rule (is_none_or_defined n index.item) index.within r

-- The length of the segment with an index; 0 if there is none.
abbrev pub length_of_segment : List Rec → ℕ → ℕ
length_of_segment before i = unwrap_or (option_map (λ s. s.length) (entry (segments before) i)) 0

-- The segment of the data exists, and their `size` bytes are within it.
abbrev pub data_rules : List Rec → DataItem → ℕ → List Rule
data_rules before d size = names_entry (length (segments before)) reason.UndefinedSegment d.segment
    ∷ rule (nat_le (d.offset.item + size) (length_of_segment before d.segment.item)) d.offset.within reason.OutsideSegment ∷ []

-- The reason of an index that is not that of an entry of a table.
abbrev pub undefined : Kind → Reason
undefined kinds.Segment = reason.UndefinedSegment
undefined kinds.Group = reason.UndefinedGroup
undefined kinds.External = reason.UndefinedExternal

-- A target, with the place of a fault: if a thread gives it, the thread is set; its index is defined.
abbrev pub target_rules : List Rec → ℕ → Option TargetMethod → List Rule
target_rules before at None = rule false at reason.UndefinedThread ∷ []
target_rules before at (Some t) = rule (is_defined (entries before t.kind) t.index) at (undefined t.kind) ∷ []

-- A frame, in the same way.
abbrev pub frame_rules : List Rec → ℕ → Option FrameMethod → List Rule
frame_rules before at None = rule false at reason.UndefinedThread ∷ []
frame_rules before at (Some (Of t)) = target_rules before at (Some t)
frame_rules before at (Some _) = []

-- The place of a fault of a frame or a target: its own datum, or the fix data byte if it has none.
abbrev pub judged_at : Reference → Option (At ℕ) → ℕ
judged_at r datum = unwrap_or (option_map (λ a. a.within) datum) r.fix.within

abbrev pub reference_rules : List Rec → List Subrecord → Reference → List Rule
reference_rules before earlier r = frame_rules before (judged_at r r.frame) (frame_of earlier r) ++ target_rules before (judged_at r r.target) (target_of earlier r)

-- The location of a fixup is within the data of the last data record, which is an LEDATA. (Fixups on the blocks of an LIDATA are refused: this
-- profile's rule.)
abbrev pub location_rule : Option Contents → ℕ → ℕ → Rule
location_rule (Some (Plain d)) within locat = rule (nat_le (location_offset locat + (row_of (location_type locat)).size) (length d.bytes)) within reason.OutsideRecord
location_rule (Some _) within locat = rule false within reason.FixupOnIterated
location_rule None within locat = rule false within reason.NoDataRecord

-- A subrecord at its place, after the earlier subrecords of its record. The index of a THREAD is checked where the thread is used.
abbrev pub subrecord_rules_at : List Rec → List Subrecord → ℕ → Subrecord → List Rule
subrecord_rules_at before earlier within (Thread byte datum) = []
subrecord_rules_at before earlier within (Fixup locat r) = location_rule (last_data before) within locat ∷ reference_rules before (subrecords before ++ earlier) r

-- The start of a MODEND is a reference whose frame method is not F4.
abbrev pub is_location_frame : Option FrameMethod → Bool
is_location_frame (Some F4) = true
is_location_frame _ = false

abbrev pub start_rules : List Rec → Option Reference → List Rule
start_rules before None = []
start_rules before (Some r) = reference_rules before (subrecords before) r
    ++ rule (not (is_location_frame (frame_of (subrecords before) r))) r.fix.within reason.StartFrame ∷ []

-- The rules of a record of this type, by its contents. A SEGDEF or a GRPDEF above the limit has its fault at 3. COMENT classes, at 4: AAH marks
-- another dialect, C0H to FFH are reserved for vendors (rules of this profile).
abbrev pub contents_rules : Profile → Limits → List Rec → ℕ → Contents → List Rule
contents_rules profile limits before kind (Comment byte class text) = rule (not (class == 0xAA)) 4 reason.OtherDialect
    ∷ rule (not profile.refuse_vendor_comments || nat_lt class 0xC0) 4 reason.VendorComment ∷ []
contents_rules profile limits before kind (Names items) = room table_limit (length (names before)) (places items)
contents_rules profile limits before kind (Segment s) = room table_limit (length (segments before)) (3 ∷ [])
    ++ names_entry_or_none (length (names before)) reason.UndefinedName s.name
    ∷ names_entry_or_none (length (names before)) reason.UndefinedName s.class ∷ []
contents_rules profile limits before kind (Group g) = room table_limit (length (groups before)) (3 ∷ [])
    ++ names_entry_or_none (length (names before)) reason.UndefinedName g.name
    ∷ map (λ m. names_entry (length (segments before)) reason.UndefinedSegment m.item) g.members
contents_rules profile limits before kind (Externs items) = room table_limit (length (externals before)) (places items)
contents_rules profile limits before kind (Publics p) = names_entry_or_none (length (groups before)) reason.UndefinedGroup p.group
    ∷ names_entry_or_none (length (segments before)) reason.UndefinedSegment p.segment ∷ []
contents_rules profile limits before kind (Communals items) = room table_limit (length (externals before)) (places items)
contents_rules profile limits before kind (Plain d) = data_rules before d (length d.bytes)
contents_rules profile limits before kind (Iterated d) = data_rules before d (blocks_size (blocks_of (width kind) limits d.bytes))
contents_rules profile limits before kind (Fixups subs) = with_before (λ earlier s. subrecord_rules_at before (map (λ e. e.item) earlier) s.within s.item) [] subs
contents_rules profile limits before kind (ModEnd byte start) = start_rules before start
contents_rules profile limits before kind _ = []

-- All the rules of a record, given the records before it.
abbrev pub rules : Profile → Limits → List Rec → Rec → List Rule
rules profile limits before r = room item_limit (item_count before) (item_places r.contents) ++ contents_rules profile limits before r.kind r.contents
