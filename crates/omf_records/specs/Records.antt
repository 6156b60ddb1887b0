-- The layout of each record's contents (TIS OMF 1.1, the page of each record).
use Rattle.omf_frame.specs.Bytes.{has_bit}
use Rattle.std.specs.Prelude.{ℕ, ◌==◌, ◌||◌, not, nat_lt, Bool, List, Option, Some, None}
use Rattle.omf_frame.specs.Types.{type_of}
use Rattle.omf_frame.specs.declared.kinds.RecordType.{RecordType}
use Rattle.omf_frame.specs.declared.kinds.RecordType.TheVariants.{Theadr, Lheadr, Coment, Lnames, Llnames, Segdef, Grpdef, Extdef, Lextdef, Pubdef, Lpubdef, Comdef, Lcomdef, Ledata, Lidata, Fixupp, Modend}
use Rattle.omf_frame.specs.declared.fault.Reason.TheVariants as reason
use Rattle.omf_records.specs.Values.{DataItem, Contents, Header, Comment, Names, Segment, Group, Externs, Publics, Communals, Plain, Iterated, Fixups, ModEnd, Carried, Rec, is_wide, alignment, is_big}
use Rattle.omf_records.specs.Layout.{Layout, ◌>>=◌, give, ends, rest, many, name, index, byte, le, number_of, checked, with_place, called, when}
use Rattle.omf_records.specs.Entries.{unless, member, external, public_item, communal, reference, subrecord}

-- THEADR, LHEADR: a name.
abbrev pub header : Layout Contents
header = do
  text ← name
  ends (Header text)

-- COMENT: type byte, class byte, text to the end.
abbrev pub comment : Layout Contents
comment = do
  type_byte ← byte
  class ← byte
  called rest (Comment type_byte class)

-- SEGDEF: attribute byte; frame number and offset of an absolute segment; length; name, class and overlay index. Alignments
-- 6 and 7 are refused (this profile's rule), and a length other than 0 if the segment is Big.
abbrev pub absolute : Layout (ℕ × ℕ)
absolute = do
  frame ← le 2
  offset ← byte
  give (frame, offset)

abbrev pub segment : Bool → Layout Contents
segment wide = do
  attribute ← checked byte (λ attribute. unless (nat_lt (alignment attribute) 6) reason.Alignment)
  at ← when (alignment attribute == 0) absolute
  size ← checked (number_of wide) (λ size. unless (not (is_big attribute) || (size == 0)) reason.BigLength)
  text ← with_place index
  class ← with_place index
  overlay ← index
  ends (Segment (record { attribute = attribute; absolute = at; size = size; name = text; class = class; overlay = overlay }))

-- GRPDEF: the index of its name, and members to the end.
abbrev pub group : Layout Contents
group = do
  text ← with_place index
  called (many member) (λ ms. Group (record { name = text; members = ms }))

-- PUBDEF, LPUBDEF: group index; segment index; the base frame number if the segment index is 0; public names to the end.
abbrev pub publics : Bool → Layout Contents
publics wide = do
  group ← with_place index
  segment ← with_place index
  frame ← when (segment.item == 0) (le 2)
  called (many (public_item wide)) (λ ps. Publics (record { group = group; segment = segment; frame = frame; items = ps }))

-- LEDATA, LIDATA: segment index, offset, and data or blocks to the end.
abbrev pub data_item : Bool → Layout DataItem
data_item wide = do
  segment ← with_place index
  offset ← with_place (number_of wide)
  called rest (λ bytes. record { segment = segment; offset = offset; bytes = bytes })

-- MODEND: type byte, and the start address if its bit 6 is set. Its bit 0 counts for nothing, and the start may lack a displacement (this profile's
-- rule; the standard has bit 0 set, and a displacement).
abbrev pub mod_end : Bool → Layout Contents
mod_end wide = do
  type_byte ← byte
  start ← when (has_bit type_byte 6) (reference wide)
  ends (ModEnd type_byte start)

-- TYPDEF, LINNUM, LINSYM, ALIAS, VERNUM: any bytes. (Framing refuses a module with any other type.)
abbrev pub carried : Layout Contents
carried = called rest Carried

-- The layout of the records of a type; `wide` is true if they have 32-bit fields. LNAMES, EXTDEF, COMDEF and their local kinds are items to the end;
-- so is FIXUPP. Records that are carried are any bytes.
abbrev pub layout_of : RecordType → Bool → Layout Contents
layout_of Theadr wide = header
layout_of Lheadr wide = header
layout_of Coment wide = comment
layout_of Lnames wide = called (many name) Names
layout_of Llnames wide = called (many name) Names
layout_of Segdef wide = segment wide
layout_of Grpdef wide = group
layout_of Extdef wide = called (many external) Externs
layout_of Lextdef wide = called (many external) Externs
layout_of Pubdef wide = publics wide
layout_of Lpubdef wide = publics wide
layout_of Comdef wide = called (many communal) Communals
layout_of Lcomdef wide = called (many communal) Communals
layout_of Ledata wide = called (data_item wide) Plain
layout_of Lidata wide = called (data_item wide) Iterated
layout_of Fixupp wide = called (many (subrecord wide)) Fixups
layout_of Modend wide = mod_end wide
layout_of _ wide = carried

abbrev pub layout_if : Option RecordType → Bool → Layout Contents
layout_if (Some t) wide = layout_of t wide
layout_if None wide = carried

-- The contents of a record with a type byte. (Framing refuses a module with an unknown type.)
abbrev pub contents : ℕ → Layout Contents
contents kind = layout_if (type_of kind) (is_wide kind)

-- The contents of a record, which begin at offset 3, encode this typed record.
abbrev pub IsTyped : Rec → List ℕ → Type 0
IsTyped r body = (contents r.kind).Spells 3 body r.contents
