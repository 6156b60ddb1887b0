-- Typed records (TIS OMF 1.1, the page of each record). A byte of packed bits is kept whole, so that no bit is lost; definitions
-- at the end of the file extract its bits.
use Rattle.std.specs.Prelude.{ℕ, ◌%◌, ◌==◌, Bool, List, map, Option, option_map, if◌then◌else◌}
use Rattle.omf_frame.specs.Bytes.{bits, has_bit}

-- a value, and the offset in the record of its first byte (0 is the type byte)
pub record At (A : Type 0) : Type 0 where
  pub within : ℕ
  pub item : A

-- SEGDEF: attribute byte; frame number and offset of an absolute segment; length field; name, class and overlay index
pub record SegmentItem : Type 0 where
  pub attribute : ℕ
  pub absolute : Option (ℕ × ℕ)
  pub size : ℕ
  pub name : At ℕ
  pub class : At ℕ
  pub overlay : ℕ

-- GRPDEF: name index, and members; the offset of a member is that of its component byte, its item a segment index
pub record GroupItem : Type 0 where
  pub name : At ℕ
  pub members : List (At (At ℕ))

-- EXTDEF, LEXTDEF: an external name
pub record ExternalItem : Type 0 where
  pub name : List ℕ
  pub type_index : ℕ

-- PUBDEF, LPUBDEF: a public name, with its offset in the record's base
pub record PublicItem : Type 0 where
  pub name : List ℕ
  pub offset : ℕ
  pub type_index : ℕ

pub record PublicItems : Type 0 where
  pub group : At ℕ
  pub segment : At ℕ
  pub frame : Option ℕ
  pub items : List (At PublicItem)

-- COMDEF, LCOMDEF: the size of a communal: near has a length, far a number of elements and their size
pub data CommunalSize : Type 0 where
  Near : ℕ → CommunalSize
  Far : ℕ → ℕ → CommunalSize

pub record CommunalItem : Type 0 where
  pub name : List ℕ
  pub type_index : ℕ
  pub size : CommunalSize

-- LEDATA and LIDATA: the data, or the blocks as bytes, at an offset in a segment
pub record DataItem : Type 0 where
  pub segment : At ℕ
  pub offset : At ℕ
  pub bytes : List ℕ

-- The reference of a FIXUP or of MODEND's start address: fix data byte, frame datum, target datum, displacement.
pub record Reference : Type 0 where
  pub fix : At ℕ
  pub frame : Option (At ℕ)
  pub target : Option (At ℕ)
  pub displacement : Option ℕ

-- FIXUPP: a THREAD has its first byte and an optional index; a FIXUP has its first two bytes (high byte first) and a reference
pub data Subrecord : Type 0 where
  Thread : ℕ → Option (At ℕ) → Subrecord
  Fixup : ℕ → Reference → Subrecord

-- The contents of a record, by its type. LNAMES and LLNAMES, EXTDEF and LEXTDEF, PUBDEF and LPUBDEF, COMDEF and LCOMDEF have the
-- same contents, and differ in the type only.
pub data Contents : Type 0 where
  Header : List ℕ → Contents
  Comment : ℕ → ℕ → List ℕ → Contents
  Names : List (At (List ℕ)) → Contents
  Segment : SegmentItem → Contents
  Group : GroupItem → Contents
  Externs : List (At ExternalItem) → Contents
  Publics : PublicItems → Contents
  Communals : List (At CommunalItem) → Contents
  Plain : DataItem → Contents
  Iterated : DataItem → Contents
  Fixups : List (At Subrecord) → Contents
  ModEnd : ℕ → Option Reference → Contents
  Carried : List ℕ → Contents

-- A typed record: its record type and its contents.
pub record Rec : Type 0 where
  pub kind : ℕ
  pub contents : Contents

-- Odd types have 32-bit fields. The size of such a field in bytes, and in bits.
abbrev pub is_wide : ℕ → Bool
is_wide kind = kind % 2 == 1

abbrev pub width : ℕ → ℕ
width kind = if is_wide kind then 4 else 2

-- SEGDEF's attribute byte: the alignment, the combination, whether the segment is Big, and whether its code has 32 bits.
abbrev pub alignment : ℕ → ℕ
alignment attribute = bits attribute 5 3

abbrev pub combination : ℕ → ℕ
combination attribute = bits attribute 2 3

abbrev pub is_big : ℕ → Bool
is_big attribute = has_bit attribute 1

abbrev pub is_use32 : ℕ → Bool
is_use32 attribute = has_bit attribute 0

-- THREAD: whether it sets a frame thread, its method, its number.
abbrev pub thread_is_frame : ℕ → Bool
thread_is_frame byte = has_bit byte 6

abbrev pub thread_method : ℕ → ℕ
thread_method byte = if thread_is_frame byte then bits byte 2 3 else bits byte 2 2

-- FIXUP's first two bytes: M, the location type, the offset into the data.
abbrev pub is_segment_relative : ℕ → Bool
is_segment_relative locat = has_bit locat 14

abbrev pub location_type : ℕ → ℕ
location_type locat = bits locat 10 4

abbrev pub location_offset : ℕ → ℕ
location_offset locat = bits locat 0 10

-- Fix data byte: bit 7 is F, bits 6-4 the frame's method or its thread, bit 3 is T, bit 2 is P, bits 1-0 the target's method or its thread.
abbrev pub frame_by_thread : ℕ → Bool
frame_by_thread fix = has_bit fix 7

abbrev pub frame_bits : ℕ → ℕ
frame_bits fix = bits fix 4 3

abbrev pub target_by_thread : ℕ → Bool
target_by_thread fix = has_bit fix 3

abbrev pub target_bits : ℕ → ℕ
target_bits fix = bits fix 0 2

-- A record with all its offsets set to 0: two encodings of one record differ in offsets only.
abbrev pub nowhere : {A : Type 0} → A → At A
nowhere a = record { within = 0; item = a }

abbrev pub unplaced : {A : Type 0} → At A → At A
unplaced a = nowhere a.item

abbrev pub reference_alone : Reference → Reference
reference_alone r = record r { fix = unplaced r.fix; frame = option_map unplaced r.frame; target = option_map unplaced r.target }

abbrev pub subrecord_alone : Subrecord → Subrecord
subrecord_alone (Thread byte datum) = Thread byte (option_map unplaced datum)
subrecord_alone (Fixup locat r) = Fixup locat (reference_alone r)

abbrev pub contents_alone : Contents → Contents
contents_alone (Names items) = Names (map unplaced items)
contents_alone (Segment s) = Segment (record s { name = unplaced s.name; class = unplaced s.class })
contents_alone (Group g) = Group (record { name = unplaced g.name; members = map (λ m. nowhere (unplaced m.item)) g.members })
contents_alone (Externs items) = Externs (map unplaced items)
contents_alone (Publics p) = Publics (record p { group = unplaced p.group; segment = unplaced p.segment; items = map unplaced p.items })
contents_alone (Communals items) = Communals (map unplaced items)
contents_alone (Plain d) = Plain (record d { segment = unplaced d.segment; offset = unplaced d.offset })
contents_alone (Iterated d) = Iterated (record d { segment = unplaced d.segment; offset = unplaced d.offset })
contents_alone (Fixups subs) = Fixups (map (λ s. nowhere (subrecord_alone s.item)) subs)
contents_alone (ModEnd byte start) = ModEnd byte (option_map reference_alone start)
contents_alone c = c

abbrev pub alone : Rec → Rec
alone r = record r { contents = contents_alone r.contents }
