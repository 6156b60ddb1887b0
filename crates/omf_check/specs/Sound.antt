-- Guarantees for the records of a well-formed module: no thread, entry, data or byte that a record refers to is missing.
use Rattle.std.specs.Prelude.{◌≡◌, ◌≢◌, ◌≤◌, ℕ, ◌+◌, ◌^◌, List, [], ◌∷◌, ◌++◌, length, map, All, Bool, true, false, ◌==◌, Some, is_some, IsSome, IsOk, ⊤}
use Rattle.omf_records.specs.Location.{row_of}
use Rattle.omf_records.specs.Values.{At, Rec, Contents, Segment, SegmentItem, Group, GroupItem, Publics, PublicItems, Plain, Iterated, Fixups, ModEnd, DataItem, Subrecord, Thread, Fixup, Reference, width, location_type, location_offset}
-- computed: blocks_are_read and lengths_are_decided of omf_image.
use Rattle.omf_image.specs.Inner.Expanding.{expanded, expanded_length}
use Rattle.omf_image.specs.declared.limits.Limits.{Limits}
use Rattle.omf_check.specs.Rules.{length_of_segment}
use Rattle.omf_check.specs.Tables.{names, segments, groups, entries, is_defined, is_none_or_defined, subrecords, last_data, segment_length}
use Rattle.omf_check.specs.Threads.{FrameMethod, Of, F4, TargetMethod, frame_setting, target_setting, plain}

-- The entry that a target refers to is in its table after these records.
abbrev pub TargetIsDefined : List Rec → TargetMethod → Type 0
TargetIsDefined before t = is_defined (entries before t.kind) t.index ≡ true

-- The entry that a frame refers to is in its table after these records; F4 and F5 refer to none.
abbrev pub FrameIsDefined : List Rec → FrameMethod → Type 0
FrameIsDefined before (Of t) = TargetIsDefined before t
FrameIsDefined before _ = ⊤

-- A reference after these records and subrecords: its threads are set, and its frame and its target are defined.
pub record ReferenceHolds (before : List Rec) (earlier : List Subrecord) (r : Reference) : Type 0 where
  pub frame_set : IsSome (frame_setting earlier r)
  pub target_set : IsSome (target_setting earlier r)
  pub frame : FrameIsDefined before (plain earlier r).frame
  pub target : TargetIsDefined before (plain earlier r).target

-- A fixup: the last data record is an LEDATA, the location is within its data, and the reference holds.
pub record FixupHolds (before : List Rec) (earlier : List Subrecord) (locat : ℕ) (r : Reference) : Type 0 where
  pub data_record : DataItem
  pub last : last_data before ≡ Some (Plain data_record)
  pub inside : location_offset locat + (row_of (location_type locat)).size ≤ length data_record.bytes
  pub reference : ReferenceHolds before earlier r

abbrev pub SubrecordHolds : List Rec → List Subrecord → Subrecord → Type 0
SubrecordHolds before earlier (Thread byte datum) = ⊤
SubrecordHolds before earlier (Fixup locat r) = FixupHolds before earlier locat r

-- The start: its reference holds, and its frame method is not F4.
pub record StartHolds (before : List Rec) (r : Reference) : Type 0 where
  pub reference : ReferenceHolds before (subrecords before) r
  pub frame : (plain (subrecords before) r).frame ≢ F4

-- A data record with `size` bytes of data: its segment is defined, and the bytes are within it.
pub record DataHolds (before : List Rec) (d : DataItem) (size : ℕ) : Type 0 where
  pub segment : is_defined (length (segments before)) d.segment.item ≡ true
  pub inside : d.offset.item + size ≤ length_of_segment before d.segment.item
  pub short : length d.bytes ≤ 65534

-- An LIDATA: its blocks expand to bytes within the limits, and these are within its segment.
pub record BlocksHold (limits : Limits) (before : List Rec) (kind : ℕ) (d : DataItem) : Type 0 where
  pub expands : IsOk (expanded_length (width kind) limits d.bytes)
  pub lies : DataHolds before d (length (expanded (width kind) limits d.bytes))

-- A SEGDEF: the names of the segment and of its class are defined or 0 for none, and it has 2^32 bytes at most. The index of the overlay name is not
-- used.
pub record SegmentHolds (before : List Rec) (kind : ℕ) (s : SegmentItem) : Type 0 where
  pub name : is_none_or_defined (length (names before)) s.name.item ≡ true
  pub class : is_none_or_defined (length (names before)) s.class.item ≡ true
  pub short : segment_length kind s ≤ 2 ^ 32

-- A GRPDEF: its name is defined or 0 for none, and each member is a segment that is defined.
pub record GroupHolds (before : List Rec) (g : GroupItem) : Type 0 where
  pub name : is_none_or_defined (length (names before)) g.name.item ≡ true
  pub members : All (λ m. is_defined (length (segments before)) m.item.item ≡ true) g.members

-- A PUBDEF or an LPUBDEF: the group and the segment of its base are defined or 0 for none, and it has a base frame number exactly if it
-- has no segment.
pub record PublicsHold (before : List Rec) (p : PublicItems) : Type 0 where
  pub group : is_none_or_defined (length (groups before)) p.group.item ≡ true
  pub segment : is_none_or_defined (length (segments before)) p.segment.item ≡ true
  pub frame : is_some p.frame ≡ (p.segment.item == 0)

-- The subrecords of a FIXUPP, each after those before it in the module.
abbrev pub SubrecordsHold : List Rec → List (At Subrecord) → Type 0
SubrecordsHold before subs = (done rest : List (At Subrecord)) (s : At Subrecord) → subs ≡ done ++ s ∷ rest
    → SubrecordHolds before (subrecords before ++ map (λ e. e.item) done) s.item

-- A record by its contents, after the records before it.
abbrev pub ContentsHold : Limits → List Rec → ℕ → Contents → Type 0
ContentsHold limits before kind (Plain d) = DataHolds before d (length d.bytes)
ContentsHold limits before kind (Iterated d) = BlocksHold limits before kind d
ContentsHold limits before kind (Segment s) = SegmentHolds before kind s
ContentsHold limits before kind (Group g) = GroupHolds before g
ContentsHold limits before kind (Publics p) = PublicsHold before p
ContentsHold limits before kind (Fixups subs) = SubrecordsHold before subs
ContentsHold limits before kind (ModEnd byte (Some r)) = StartHolds before r
ContentsHold limits before kind _ = ⊤

-- Whether a record is a MODEND.
abbrev pub is_module_end : Contents → Bool
is_module_end (ModEnd byte start) = true
is_module_end _ = false

-- A module: each record holds after the records before it, and only the last record is a MODEND.
pub record ModuleHolds (limits : Limits) (m : List Rec) : Type 0 where
  pub each : (before after : List Rec) (r : Rec) → m ≡ before ++ r ∷ after → ContentsHold limits before r.kind r.contents
  pub ends : (front : List Rec) × (end : Rec) × (m ≡ front ++ end ∷ []) × (is_module_end end.contents ≡ true) × All (λ r. is_module_end r.contents ≡ false) front
