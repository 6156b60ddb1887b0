-- Modules that a linker writes itself: their records and their bytes (TIS OMF 1.1, the page of each record).
use Rattle.std.specs.Prelude.{ℕ, ◌+◌, List, [], ◌∷◌, ◌++◌, flat_map, Bool, None, if◌then◌else◌}
use Rattle.omf_frame.specs.Fields.{index_bytes}
use Rattle.omf_frame.specs.Framing.{raw_bytes, raw_of}
use Rattle.omf_records.specs.Shortest.{contents_bytes}
use Rattle.omf_records.specs.Values.{Rec, Contents, Header, Comment, Names, Segment, Group, Publics, ModEnd, SegmentItem, nowhere}

-- A record of a type with these contents.
abbrev pub typed : ℕ → Contents → Rec
typed kind contents = record { kind = kind; contents = contents }

-- The bytes of a record: its shortest contents and the computed checksum byte; and the bytes of several.
abbrev pub framed : Rec → List ℕ
framed r = raw_bytes (raw_of r.kind (contents_bytes r.kind r.contents))

abbrev pub written : List Rec → List ℕ
written rs = flat_map framed rs

-- A THEADR with the module's name.
abbrev pub header : List ℕ → Rec
header name = typed 0x80 (Header name)

-- An LNAMES with one name.
abbrev pub name_record : List ℕ → Rec
name_record name = typed 0x96 (Names (nowhere name ∷ []))

-- A SEGDEF of type 99H, whose length field has 32 bits. Its overlay name has index 1.
abbrev pub segment : ℕ → ℕ → ℕ → ℕ → SegmentItem
segment attribute size name class = record { attribute = attribute; absolute = None; size = size; name = nowhere name; class = nowhere class; overlay = 1 }

abbrev pub segment_record : ℕ → ℕ → ℕ → ℕ → Rec
segment_record attribute size name class = typed 0x99 (Segment (segment attribute size name class))

-- A COMENT that raises a segment to 4,096 bytes (`raised_by` of specs/Wants), if the segment is raised; and those of several, from an index on.
abbrev pub raise_record : ℕ → Rec
raise_record segment = typed 0x88 (Comment 0 0xDC (index_bytes segment))

abbrev pub raising : Bool → ℕ → List Rec
raising is_raised segment = if is_raised then raise_record segment ∷ [] else []

abbrev pub raisings : ℕ → List Bool → List Rec
raisings segment [] = []
raisings segment (is_raised ∷ bs) = raising is_raised segment ++ raisings (segment + 1) bs

-- A GRPDEF with one segment.
abbrev pub group_record : ℕ → ℕ → Rec
group_record name member = typed 0x9A (Group (record { name = nowhere name; members = nowhere (nowhere member) ∷ [] }))

-- A GRPDEF without a segment.
abbrev pub empty_group_record : ℕ → Rec
empty_group_record name = typed 0x9A (Group (record { name = nowhere name; members = [] }))

-- A PUBDEF of type 91H, whose offset has 32 bits, with one public.
abbrev pub public_record : ℕ → ℕ → List ℕ → ℕ → Rec
public_record group segment name offset =
    typed 0x91 (Publics (record { group = nowhere group; segment = nowhere segment; frame = None; items = nowhere (record { name = name; offset = offset; type_index = 0 }) ∷ [] }))

-- A MODEND of a module that is not a main module and has no start address.
abbrev pub end_record : Rec
end_record = typed 0x8A (ModEnd 0 None)
