-- LIDATAs with fixups, unrolled (TIS OMF 1.1, "LIDATA", "FIXUPP": the data record offset of a fixup after an LIDATA counts from its first block, and must not be in a repeat count, a
-- block count or a length byte; the fixup is applied to each copy of its location). This profile has no fixups after an LIDATA. So the LIDATA stays, and each such fixup becomes, for
-- each copy of its location, an LEDATA of the location's bytes at the place of the copy and a FIXUPP with the fixup (this profile's rule).
use Rattle.std.specs.Prelude.{ℕ, ◌+◌, ◌*◌, ◌-◌, ◌^◌, List, [], ◌∷◌, ◌++◌, length, take, drop, map, flat_map, fold, find, Bool, true, false, ◌&&◌, nat_lt, nat_le, Option, Some, None, option_map, Result, Ok, Err, if◌then◌else◌}
use Rattle.std.specs.List.{list_any}
use Rattle.omf_frame.specs.Fault.{Fault}
use Rattle.omf_frame.specs.Framing.{Raw, raw_of, is_taken}
use Rattle.omf_frame.specs.declared.fault.Reason.TheVariants as reason
-- computed: lengths_are_decided of omf_image.
use Rattle.omf_image.specs.Inner.Expanding.{expanded_length}
use Rattle.omf_image.specs.Limits.{profile_limits}
use Rattle.omf_records.specs.Layout.{fault}
use Rattle.omf_records.specs.Location.{row_of}
use Rattle.omf_records.specs.Shortest.{data_bytes, subrecord_bytes}
use Rattle.omf_records.specs.Values.{At, Contents, DataItem, Fixup, Fixups, Iterated, Plain, Reference, Subrecord, Thread, location_offset, location_type, nowhere, width}
-- computed: readings_meet_layouts and contents_are_typed_once of omf_records.
use Rattle.omf_records.specs.Inner.Reading.{read_body}
use Rattle.omf_records.specs.Inner.Reads.{and_then}
use Rattle.omf_check.specs.Rules.{item_limit}
-- computed: copies_are_copies of omf_lowering.
use Rattle.omf_lowering.specs.Inner.Spreading.{Content, contents_in}
use Rattle.omf_lowering.specs.declared.location.Location.{Location}

-- The location of a fixup, by its first two bytes.
abbrev pub location_of : ℕ → Location
location_of locat = record { offset = location_offset locat; size = (row_of (location_type locat)).size }

-- All bytes of a location are in the data of an innermost block.
abbrev pub has_all : Location → Content → Bool
has_all l c = nat_le c.start l.offset && nat_le (l.offset + l.size) (c.start + c.size)

-- The offsets of the copies of a location in the expanded data; None if no innermost block has all its bytes.
abbrev pub copies_of : List Content → Location → Option (List ℕ)
copies_of contents l = option_map (λ c. map (λ x. x + (l.offset - c.start)) c.copies) (find (has_all l) contents)

-- Two locations have a byte in common.
abbrev pub overlaps : Location → Location → Bool
overlaps l m = nat_lt l.offset (m.offset + m.size) && nat_lt m.offset (l.offset + l.size)

-- An LIDATA with fixups: the width of its repeat counts, and its contents.
pub record Blocks : Type 0 where
  pub width : ℕ
  pub item : DataItem

-- What a module has up to a record: the data that its fixups are for, if these are an LIDATA's; the locations of the fixups of these data; and the records so far.
pub record Before : Type 0 where
  pub blocks : Option Blocks
  pub taken : List Location
  pub records : List Raw

-- The LEDATA of a copy: the bytes of the location at the place of the copy in the segment.
abbrev pub ledata : Blocks → Location → ℕ → Raw
ledata b l copy = raw_of 0xA1 (data_bytes 0xA1 (record { segment = b.item.segment; offset = nowhere (b.item.offset.item + copy); bytes = take l.size (drop l.offset b.item.bytes) }))

-- A FIXUPP with one subrecord.
abbrev pub fixupp : ℕ → Subrecord → Raw
fixupp kind s = raw_of kind (subrecord_bytes kind s)

-- The records of the copies of a location: the fixup is at the first byte of each LEDATA.
abbrev pub copied : ℕ → Blocks → ℕ → Reference → List ℕ → List Raw
copied kind b locat r copies = flat_map (λ x. ledata b (location_of locat) x ∷ fixupp kind (Fixup (locat - location_offset locat) r) ∷ []) copies

-- After a fixup at an offset in its record, by the copies of its location. OutsideRecord if no innermost block has the location, FixupOnIterated if another fixup of the same data has a
-- byte of it, TooMany if the records become too many (rules of this profile).
abbrev pub with_copies : ℕ → Blocks → Before → ℕ → ℕ → Reference → Option (List ℕ) → Result Before Fault
with_copies kind d b within locat r None = Err (fault within reason.OutsideRecord)
with_copies kind d b within locat r (Some copies) =
    if list_any (overlaps (location_of locat)) b.taken then Err (fault within reason.FixupOnIterated)
    else if nat_le (length b.records + 2 * length copies) item_limit
    then Ok (record b { taken = b.taken ++ location_of locat ∷ []; records = b.records ++ copied kind d locat r copies })
    else Err (fault within reason.TooMany)

-- After a subrecord of a FIXUPP for an LIDATA: a THREAD has a FIXUPP of its own, so it stays in force from there on.
abbrev pub after_part : ℕ → Blocks → Before → ℕ → Subrecord → Result Before Fault
after_part kind d b within (Thread byte datum) = Ok (record b { records = b.records ++ fixupp kind (Thread byte datum) ∷ [] })
after_part kind d b within (Fixup locat r) = with_copies kind d b within locat r (copies_of (contents_in d.width profile_limits.nesting d.item.bytes) (location_of locat))

abbrev pub after_subrecords : ℕ → Blocks → Before → List (At Subrecord) → Result Before Fault
after_subrecords kind d b [] = Ok b
after_subrecords kind d b (s ∷ subs) = and_then (after_part kind d b s.within s.item) (λ next. after_subrecords kind d next subs)

abbrev pub is_fixup : Subrecord → Bool
is_fixup (Thread byte datum) = false
is_fixup (Fixup locat r) = true

-- The blocks of an LIDATA, if they are within the limits and their data end by 2^32. `check` refuses every other LIDATA.
abbrev pub blocks_by : ℕ → DataItem → Result ℕ Fault → Option Blocks
blocks_by kind d (Ok size) = if nat_le (d.offset.item + size) (2 ^ 32) then Some (record { width = width kind; item = d }) else None
blocks_by kind d (Err e) = None

abbrev pub blocks_of : ℕ → DataItem → Option Blocks
blocks_of kind d = blocks_by kind d (expanded_length (width kind) profile_limits d.bytes)

-- After a record that is kept as it is.
abbrev pub kept : Before → Raw → Before
kept b r = record b { records = b.records ++ r ∷ [] }

-- After a data record: the fixups after it are for these blocks, if there are any.
abbrev pub begun : Option Blocks → Before → Raw → Before
begun blocks b r = record { blocks = blocks; taken = []; records = b.records ++ r ∷ [] }

-- After a FIXUPP: it is kept, but for one with a fixup after an LIDATA.
abbrev pub after_fixups : Option Blocks → Before → Raw → List (At Subrecord) → Result Before Fault
after_fixups None b r subs = Ok (kept b r)
after_fixups (Some d) b r subs = if list_any (λ s. is_fixup s.item) subs then after_subrecords r.kind d b subs else Ok (kept b r)

abbrev pub after_contents : Before → Raw → Contents → Result Before Fault
after_contents b r (Plain d) = Ok (begun None b r)
after_contents b r (Iterated d) = Ok (begun (blocks_of r.kind d) b r)
after_contents b r (Fixups subs) = after_fixups b.blocks b r subs
after_contents b r _ = Ok (kept b r)

-- What a module has up to the next record, or the fault of the record: of layout, if this profile reads it, or of a fixup.
abbrev pub after_record : Before → Raw → Result Before Fault
after_record b r = if is_taken r.kind then and_then (read_body r.kind r.body) (after_contents b r) else Ok (kept b r)

abbrev pub start : Before
start = record { blocks = None; taken = []; records = [] }

-- After some records, none of which has a fault.
abbrev pub after_records : List Raw → Result Before Fault
after_records rs = fold (λ b r. and_then b (λ x. after_record x r)) (Ok start) rs
