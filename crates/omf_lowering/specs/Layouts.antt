-- The layouts of the records that a lowering replaces, and of LINNUM (TIS OMF 1.1, the page of each record). `wide` is true in a record of odd type.
use Rattle.std.specs.Prelude.{ℕ, nat_lt, ◌==◌, ◌&&◌, Bool, false, if◌then◌else◌, List}
use Rattle.omf_frame.specs.declared.fault.Reason.{Reason}
use Rattle.omf_frame.specs.declared.fault.Reason.TheVariants as reason
use Rattle.omf_image.specs.declared.part.Part.{Part}
use Rattle.omf_image.specs.declared.part.Part.TheVariants as parts
use Rattle.omf_records.specs.Values.{At}
use Rattle.omf_records.specs.Layout.{Layout, ◌>>=◌, give, rest, many, index, byte, number_of, checked, with_place, called, when}
use Rattle.omf_records.specs.Entries.{unless}
use Rattle.omf_lowering.specs.Values.{BaseItem, ComdatItem, allocation, selection}
use Rattle.omf_lowering.specs.declared.linnum.LineNumber.{LineNumber}
use Rattle.omf_lowering.specs.declared.values.NamedExternal.{NamedExternal}
use Rattle.omf_lowering.specs.declared.values.Backpatch.{Backpatch}

-- CEXTDEF: the index of a name, and a type index; repeated.
abbrev pub named_external : Layout NamedExternal
named_external = do
  name ← with_place index
  type_index ← index
  give (record { name = name; type_index = type_index })

abbrev pub cextdef : Layout (List (At NamedExternal))
cextdef = many named_external

-- BAKPAT: the location types are 0, a byte; 1, a word; and, in a record of odd type alone, 2, a doubleword.
abbrev pub wrong_type : Bool → ℕ → List Reason
wrong_type wide t = unless (nat_lt t (if wide then 3 else 2)) reason.LocationType

-- The part of a location type; the layout refuses every other type.
abbrev pub part_of : ℕ → Part
part_of location = if location == 0 then parts.Byte else if location == 1 then parts.Word else parts.Dword

-- BAKPAT: an offset and a value, both of the record's width.
abbrev pub backpatch : Bool → Layout Backpatch
backpatch wide = do
  offset ← number_of wide
  value ← number_of wide
  give (record { offset = offset; value = value })

-- BAKPAT: the index of a segment, the part that each location is, and the backpatches.
pub record Backpatches : Type 0 where
  pub segment : At ℕ
  pub part : Part
  pub items : List (At Backpatch)

abbrev pub bakpat : Bool → Layout Backpatches
bakpat wide = do
  segment ← with_place index
  part ← called (checked byte (wrong_type wide)) part_of
  called (many (backpatch wide)) (λ items. record { segment = segment; part = part; items = items })

-- NBKPAT: the part that each location is, the index of the name of a COMDAT, and the backpatches.
pub record NamedBackpatches : Type 0 where
  pub name : At ℕ
  pub part : Part
  pub items : List (At Backpatch)

abbrev pub nbkpat : Bool → Layout NamedBackpatches
nbkpat wide = do
  part ← called (checked byte (wrong_type wide)) part_of
  name ← with_place index
  called (many (backpatch wide)) (λ items. record { name = name; part = part; items = items })

-- COMDAT: selections are 0 to 3, allocations 0 to 4, and alignments 0, as the segment's, to 5.
abbrev pub wrong_attributes : ℕ → List Reason
wrong_attributes attributes = unless (nat_lt (selection attributes) 4 && nat_lt (allocation attributes) 5) reason.UnsupportedType

abbrev pub wrong_align : ℕ → List Reason
wrong_align align = unless (nat_lt align 6) reason.Alignment

-- COMDAT: the base of an explicit segment.
abbrev pub base : Layout BaseItem
base = do
  group ← with_place index
  segment ← with_place index
  frame ← when (segment.item == 0) (number_of false)
  give (record { group = group; segment = segment; frame = frame })

-- COMDAT: flags, attributes, alignment, offset of the data, type index; a base if the allocation is 0, explicit; index of the public name; data or blocks to
-- the end.
abbrev pub comdat : Bool → Layout ComdatItem
comdat wide = do
  flags ← byte
  attributes ← checked byte wrong_attributes
  align ← checked byte wrong_align
  offset ← with_place (number_of wide)
  type_index ← index
  base ← when (allocation attributes == 0) base
  name ← with_place index
  called rest (λ bytes. record { flags = flags; attributes = attributes; align = align; offset = offset; type_index = type_index; base = base; name = name; bytes = bytes })

-- LINSYM: flags; the index of the name of a COMDAT; its lines, as of a LINNUM, to the end.
pub record NamedLines : Type 0 where
  pub name : At ℕ
  pub lines : List ℕ

abbrev pub linsym : Layout NamedLines
linsym = do
  flags ← byte
  name ← with_place index
  called rest (λ lines. record { name = name; lines = lines })

-- LINNUM: the number of a line of the source, and an offset.
abbrev pub line_number : Bool → Layout LineNumber
line_number wide = do
  number ← number_of false
  offset ← number_of wide
  give (record { number = number; offset = offset })

-- LINNUM: the indices of a group and of a segment, and the lines with their offsets in that segment.
pub record LineNumbers : Type 0 where
  pub group : ℕ
  pub segment : ℕ
  pub items : List (At LineNumber)

abbrev pub linnum : Bool → Layout LineNumbers
linnum wide = do
  group ← index
  segment ← index
  called (many (line_number wide)) (λ items. record { group = group; segment = segment; items = items })
