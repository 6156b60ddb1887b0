-- A module without some of its segments, as a linker leaves them out.
use Rattle.std.specs.Prelude.{◌≡◌, ℕ, ◌+◌, ◌*◌, ◌%◌, List, [], ◌∷◌, length, filter, map, flat_map, Bool, true, false, Option, Some, None, if◌then◌else◌}
use Rattle.omf_frame.specs.Bytes.{is_one_of, with_before}
use Rattle.omf_frame.specs.Framing.{Raw, raw_bytes, raw_of}
-- computed: readings_meet_layouts and contents_are_typed_once of omf_records.
use Rattle.omf_records.specs.Inner.Reading.{typed}
use Rattle.omf_records.specs.Shortest.{contents_bytes}
use Rattle.omf_records.specs.Values.{At, Contents, Fixup, Fixups, Iterated, Plain, PublicItem, PublicItems, Publics, Rec, Segment, SegmentItem, Subrecord, Thread, combination}
use Rattle.omf_check.specs.Module.{Module, records_in}
use Rattle.omf_check.specs.Tables.{last_data, segments}
use Rattle.omf_check.specs.WellFormed.{recs}
use Rattle.omf_trimming.specs.declared.without.LeftPublics.{LeftPublics}
use Rattle.omf_trimming.specs.declared.without.LeftPublics.TheVariants.{AtStart, Gone, Nameless}

-- The number of SEGDEFs after a record with these contents.
abbrev pub count_after : ℕ → Contents → ℕ
count_after count (Segment s) = count + 1
count_after count _ = count

-- A SEGDEF without names, which combines with none, takes no part in the order of segments (`runs` of omf_layout).
abbrev pub left_field : LeftPublics → ℕ → ℕ
left_field Nameless n = 0
left_field Gone n = n
left_field AtStart n = n

-- The SEGDEF of a segment that is left out: the length is 0, the alignment 1, bytes, and it is not big, so that a linker adds nothing for it.
abbrev pub emptied : LeftPublics → SegmentItem → SegmentItem
emptied publics s = record s {
  attribute = 0x20 + left_field publics (combination s.attribute) * 4 + s.attribute % 2;
  absolute = None;
  size = 0;
  name = record s.name { item = left_field publics s.name.item };
  class = record s.class { item = left_field publics s.class.item };
  overlay = left_field publics s.overlay;
}

-- A FIXUPP without its FIXUPs.
abbrev pub is_thread : Subrecord → Bool
is_thread (Thread byte datum) = true
is_thread (Fixup locat r) = false

abbrev pub threads_alone : List (At Subrecord) → List (At Subrecord)
threads_alone subs = filter (λ s. is_thread s.item) subs

-- The publics of a PUBDEF at the start of their segment.
abbrev pub at_start : At PublicItem → At PublicItem
at_start p = record p { item = record p.item { offset = 0 } }

abbrev pub started : PublicItems → PublicItems
started p = record p { items = map at_start p.items }

-- Whether data are of one of these segments.
abbrev pub are_of : List ℕ → Option Contents → Bool
are_of gone (Some (Plain d)) = is_one_of gone d.segment.item
are_of gone (Some (Iterated d)) = is_one_of gone d.segment.item
are_of gone _ = false

-- What is left of a record: all of it, nothing, or a record of its type with other contents.
pub data Left : Type 0 where
  Whole : Left
  Nothing : Left
  Anew : Contents → Left

-- What is left if these segments are left out: of a SEGDEF of one of them, which would define the segment with this index, an empty SEGDEF; of a PUBDEF or LPUBDEF in one
-- of them nothing, or its publics at the start of the segment; of data in one nothing; of a FIXUPP after such data the THREADs. Every other record stays.
abbrev pub left_publics : LeftPublics → PublicItems → Left
left_publics Gone p = Nothing
left_publics Nameless p = Nothing
left_publics AtStart p = Anew (Publics (started p))

abbrev pub left_by : LeftPublics → List ℕ → ℕ → Bool → Contents → Left
left_by publics gone segment after_gone (Segment s) = if is_one_of gone segment then Anew (Segment (emptied publics s)) else Whole
left_by publics gone segment after_gone (Publics p) = if is_one_of gone p.segment.item then left_publics publics p else Whole
left_by publics gone segment after_gone (Plain d) = if is_one_of gone d.segment.item then Nothing else Whole
left_by publics gone segment after_gone (Iterated d) = if is_one_of gone d.segment.item then Nothing else Whole
left_by publics gone segment after_gone (Fixups subs) = if after_gone then Anew (Fixups (threads_alone subs)) else Whole
left_by publics gone segment after_gone _ = Whole

abbrev pub left_after : LeftPublics → List ℕ → List Rec → Contents → Left
left_after publics gone before c = left_by publics gone (length (segments before) + 1) (are_of gone (last_data before)) c

-- The records that are left: byte for byte, or with the other contents in their shortest encoding.
abbrev pub written : ℕ → Contents → Raw
written kind c = raw_of kind (contents_bytes kind c)

abbrev pub raws_left : Raw → Left → List Raw
raws_left r Whole = r ∷ []
raws_left r Nothing = []
raws_left r (Anew c) = written r.kind c ∷ []

abbrev pub rest_of : LeftPublics → List ℕ → List Raw → Raw → List Raw
rest_of publics gone before r = raws_left r (left_after publics gone (recs before) (typed r).contents)

-- The records of a module without these segments, and its bytes.
abbrev pub records_without : LeftPublics → List ℕ → List Raw → List Raw
records_without publics gone rs = with_before (rest_of publics gone) [] rs

abbrev pub without : LeftPublics → List ℕ → List ℕ → List ℕ
without publics gone bytes = flat_map raw_bytes (records_without publics gone (records_in bytes))

-- The typed records that are left, and those of a module.
abbrev pub recs_left : Rec → Left → List Rec
recs_left t Whole = t ∷ []
recs_left t Nothing = []
recs_left t (Anew c) = (record { kind = t.kind; contents = c }) ∷ []

abbrev pub recs_without : LeftPublics → List ℕ → List Rec → List Rec
recs_without publics gone m = with_before (λ before t. recs_left t (left_after publics gone before t.contents)) [] m

-- A module without these segments. Without none it is itself.
abbrev pub IsWithout : LeftPublics → List ℕ → Module → Module → Type 0
IsWithout publics [] m out = out ≡ m
IsWithout publics (s ∷ ss) m out = out ≡ record m { bytes = without publics (s ∷ ss) m.bytes }
