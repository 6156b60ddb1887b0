-- The first fault of a record, computed from the state kept of the records before it.
use Rattle.std.specs.Prelude.{ℕ, ◌+◌, ◌-◌, List, [], ◌∷◌, length, Bool, false, not, ◌||◌, ◌==◌, nat_le, nat_lt, Option, Some, None, unwrap_or, option_map, Result, Ok, Err, if◌then◌else◌, ◌≤◌, ⊤}
use Rattle.omf_frame.specs.Fault.{Fault, is_before}
use Rattle.omf_frame.specs.declared.fault.Reason.{Reason}
use Rattle.omf_frame.specs.declared.fault.Reason.TheVariants as reason
use Rattle.omf_records.specs.Inner.Names.{location_size, frame_thread}
use Rattle.omf_records.specs.Inner.Reading.{read_body, contents_or}
use Rattle.omf_records.specs.Values.{At, Rec, Contents, Comment, Names, Segment, Group, Externs, Publics, Communals, Plain, Iterated, Fixups, ModEnd, SegmentItem, GroupItem, Subrecord, Thread, Fixup, Reference, width, location_type, location_offset, frame_by_thread, frame_bits, target_by_thread, target_bits}
use Rattle.omf_image.specs.Inner.Expanding.{expanded_length}
use Rattle.omf_image.specs.declared.limits.Limits.{Limits}
use Rattle.omf_check.specs.Inner.Names.{frame_from, target_from}
use Rattle.omf_check.specs.Refusal.{fault_from}
use Rattle.omf_check.specs.Tables.{is_defined, is_none_or_defined, entry}
use Rattle.omf_check.specs.Threads.{Kind, FrameMethod, Of, F4, F5, TargetMethod, setting}
use Rattle.omf_records.specs.declared.method.Kind.TheVariants as kinds
use Rattle.omf_check.specs.Rules.{table_limit, item_limit, item_places, places, judged_at, is_location_frame, undefined}
use Rattle.omf_check.specs.Inner.Kept.{Kept, kept_frame, kept_target, set_thread}
use Rattle.omf_check.specs.declared.profile.Profile.{Profile}
use Rattle.omf_check.specs.declared.segment.SegInfo.{SegInfo}
use Rattle.omf_check.specs.declared.threads.Threads.{Threads as CodeThreads}
use Rattle.omf_check.specs.declared.last_data.LastData.{LastData}
use Rattle.omf_check.specs.declared.last_data.LastData.TheVariants as last

-- the fault of a rule, if it does not hold
abbrev pub fault_unless : Bool → ℕ → Reason → Option Fault
fault_unless holds within r = if holds then None else Some (record { within = within; reason = r })

-- the lesser of two faults, if any
abbrev pub lesser : Option Fault → Option Fault → Option Fault
lesser None other = other
lesser (Some f) None = Some f
lesser (Some f) (Some g) = if is_before f g then Some f else Some g

-- entries at these places, with room for `left` of them
abbrev pub room_fault : ℕ → List ℕ → Option Fault
room_fault left [] = None
room_fault left (p ∷ ps) = lesser (fault_unless (nat_lt 0 left) p reason.TooMany) (room_fault (left - 1) ps)

abbrev pub entry_fault : ℕ → Reason → At ℕ → Option Fault
entry_fault n r index = fault_unless (is_defined n index.item) index.within r

abbrev pub optional_fault : ℕ → Reason → At ℕ → Option Fault
optional_fault n r index = fault_unless (is_none_or_defined n index.item) index.within r

abbrev pub comment_fault : Profile → ℕ → Option Fault
comment_fault profile class = lesser (fault_unless (not (class == 0xAA)) 4 reason.OtherDialect)
    (fault_unless (not profile.refuse_vendor_comments || nat_lt class 0xC0) 4 reason.VendorComment)

abbrev pub kept_length : List SegInfo → ℕ → ℕ
kept_length segments i = unwrap_or (option_map (λ s. s.length) (entry segments i)) 0

abbrev pub data_fault : Kept → At ℕ → At ℕ → ℕ → Option Fault
data_fault kept segment offset size = lesser (entry_fault (length kept.segments) reason.UndefinedSegment segment)
    (fault_unless (nat_le (offset.item + size) (kept_length kept.segments segment.item)) offset.within reason.OutsideSegment)

-- the number of entries of the table of a kind
abbrev pub kept_entries : Kept → Kind → ℕ
kept_entries kept kinds.Segment = length kept.segments
kept_entries kept kinds.Group = length kept.groups
kept_entries kept kinds.External = length kept.externals

-- the entry that a target refers to
abbrev pub index_fault : Kept → ℕ → TargetMethod → Option Fault
index_fault kept at t = fault_unless (is_defined (kept_entries kept t.kind) t.index) at (undefined t.kind)

abbrev pub frame_fault : Kept → ℕ → Option FrameMethod → Option Fault
frame_fault kept at None = fault_unless false at reason.UndefinedThread
frame_fault kept at (Some (Of t)) = index_fault kept at t
frame_fault kept at (Some F4) = None
frame_fault kept at (Some F5) = None

abbrev pub target_fault : Kept → ℕ → Option TargetMethod → Option Fault
target_fault kept at None = fault_unless false at reason.UndefinedThread
target_fault kept at (Some t) = index_fault kept at t

abbrev pub frame_cell : CodeThreads → Reference → Option FrameMethod
frame_cell cells r = if frame_by_thread r.fix.item then kept_frame cells (frame_thread r.fix.item) else Some (frame_from (setting (frame_bits r.fix.item) r.frame))

abbrev pub target_cell : CodeThreads → Reference → Option TargetMethod
target_cell cells r = if target_by_thread r.fix.item then kept_target cells (target_bits r.fix.item) else Some (target_from (setting (target_bits r.fix.item) r.target))

abbrev pub reference_fault : Kept → CodeThreads → Reference → Option Fault
reference_fault kept cells r = lesser (frame_fault kept (judged_at r r.frame) (frame_cell cells r)) (target_fault kept (judged_at r r.target) (target_cell cells r))

abbrev pub location_fault : Option LastData → ℕ → ℕ → Option Fault
location_fault (Some (last.Plain n)) within locat = fault_unless (nat_le (location_offset locat + location_size (location_type locat)) n) within reason.OutsideRecord
location_fault (Some last.Iterated) within locat = fault_unless false within reason.FixupOnIterated
location_fault None within locat = fault_unless false within reason.NoDataRecord

abbrev pub subrecord_fault : Kept → CodeThreads → ℕ → Subrecord → Option Fault
subrecord_fault kept cells within (Thread byte datum) = None
subrecord_fault kept cells within (Fixup locat r) = lesser (location_fault kept.last within locat) (reference_fault kept cells r)

abbrev pub subrecords_fault : Kept → CodeThreads → List (At Subrecord) → Option Fault
subrecords_fault kept cells [] = None
subrecords_fault kept cells (s ∷ subs) = lesser (subrecord_fault kept cells s.within s.item) (subrecords_fault kept (set_thread cells s.item) subs)

abbrev pub start_fault : Kept → Option Reference → Option Fault
start_fault kept None = None
start_fault kept (Some r) = lesser (reference_fault kept kept.threads r)
    (fault_unless (not (is_location_frame (frame_cell kept.threads r))) r.fix.within reason.StartFrame)

abbrev pub members_fault : ℕ → List (At (At ℕ)) → Option Fault
members_fault n [] = None
members_fault n (m ∷ members) = lesser (entry_fault n reason.UndefinedSegment m.item) (members_fault n members)

abbrev pub segment_fault : Kept → SegmentItem → Option Fault
segment_fault kept s = lesser (fault_unless (nat_lt (length kept.segments) table_limit) 3 reason.TooMany)
    (lesser (optional_fault (length kept.names) reason.UndefinedName s.name) (optional_fault (length kept.names) reason.UndefinedName s.class))

abbrev pub group_fault : Kept → GroupItem → Option Fault
group_fault kept g = lesser (fault_unless (nat_lt (length kept.groups) table_limit) 3 reason.TooMany)
    (lesser (optional_fault (length kept.names) reason.UndefinedName g.name) (members_fault (length kept.segments) g.members))

abbrev pub base_fault : Kept → At ℕ → At ℕ → Option Fault
base_fault kept group segment = lesser (optional_fault (length kept.groups) reason.UndefinedGroup group)
    (optional_fault (length kept.segments) reason.UndefinedSegment segment)

-- by the record's contents; a data record has `size` bytes of data
abbrev pub contents_fault : Profile → Kept → ℕ → Contents → Option Fault
contents_fault profile kept size (Comment byte class text) = comment_fault profile class
contents_fault profile kept size (Names items) = room_fault (table_limit - length kept.names) (places items)
contents_fault profile kept size (Segment s) = segment_fault kept s
contents_fault profile kept size (Group g) = group_fault kept g
contents_fault profile kept size (Externs items) = room_fault (table_limit - length kept.externals) (places items)
contents_fault profile kept size (Publics p) = base_fault kept p.group p.segment
contents_fault profile kept size (Communals items) = room_fault (table_limit - length kept.externals) (places items)
contents_fault profile kept size (Plain d) = data_fault kept d.segment d.offset size
contents_fault profile kept size (Iterated d) = data_fault kept d.segment d.offset size
contents_fault profile kept size (Fixups subs) = subrecords_fault kept kept.threads subs
contents_fault profile kept size (ModEnd byte start) = start_fault kept start
contents_fault profile kept size _ = None

-- The number of bytes of data of a data record, or the first fault of its blocks at its place in the record.
abbrev pub fault_moved : ℕ → Result ℕ Fault → Result ℕ Fault
fault_moved at (Ok n) = Ok n
fault_moved at (Err f) = Err (fault_from at f)

abbrev pub data_size : Limits → ℕ → Contents → Result ℕ Fault
data_size limits kind (Plain d) = Ok (length d.bytes)
data_size limits kind (Iterated d) = fault_moved (d.offset.within + width kind) (expanded_length (width kind) limits d.bytes)
data_size limits kind _ = Ok 0

abbrev pub judged_by_size : Profile → Kept → Contents → Result ℕ Fault → Option Fault
judged_by_size profile kept c (Err f) = Some f
judged_by_size profile kept c (Ok size) = lesser (room_fault (item_limit - kept.items) (item_places c)) (contents_fault profile kept size c)

abbrev pub record_fault : Profile → Limits → Kept → Rec → Option Fault
record_fault profile limits kept r = judged_by_size profile kept r.contents (data_size limits r.kind r.contents)

-- The blocks of an LIDATA are within a record, which has at most 65,538 bytes.
abbrev pub IsShort : Contents → Type 0
IsShort (Iterated d) = (d.offset.within ≤ 65537) × (length d.bytes ≤ 65534)
IsShort _ = ⊤

-- Not a FIXUPP. A FIXUPP is checked while it is read, every other record afterward.
abbrev pub IsNoFixupp : Contents → Type 0
IsNoFixupp (Fixups subs) = ⊥
IsNoFixupp _ = ⊤

-- by the reading of its contents
abbrev pub read_fault : Profile → Limits → Kept → ℕ → Result Contents Fault → Option Fault
read_fault profile limits kept kind (Ok c) = record_fault profile limits kept (record { kind = kind; contents = c })
read_fault profile limits kept kind (Err f) = Some f

abbrev pub raw_fault : Profile → Limits → Kept → ℕ → List ℕ → Option Fault
raw_fault profile limits kept kind body = read_fault profile limits kept kind (read_body kind body)

-- the typed record of a type and contents
abbrev pub rec_of : ℕ → List ℕ → Rec
rec_of kind body = record { kind = kind; contents = contents_or body (read_body kind body) }
