-- A COMDAT as a segment of its own, with a public name, a mark and data (TIS OMF 1.1, "COMDAT", "SEGDEF", "PUBDEF", "COMENT", "LEDATA"). A linker joins pieces of one public
-- segment, so a COMDAT with an explicit base becomes such a piece of it (this profile's rule).
use Rattle.std.specs.Prelude.{ℕ, ◌+◌, ◌*◌, ◌-◌, ◌^◌, ◌%◌, List, [], ◌∷◌, ◌++◌, length, filter, fold, min, codes, bytes_eq, map, Bool, not, ◌==◌, ◌&&◌, nat_lt, nat_le, Option, Some, None, Result, Ok, Err, if◌then◌else◌}
use Rattle.omf_frame.specs.Bytes.{is_one_of, last}
use Rattle.omf_frame.specs.Fault.{Fault}
use Rattle.omf_frame.specs.Fields.{index_bytes}
use Rattle.omf_frame.specs.Framing.{Raw, is_taken, raw_of}
use Rattle.omf_frame.specs.Types.{is_local as is_local_type}
use Rattle.omf_frame.specs.declared.fault.Reason.TheVariants as reason
-- computed: lengths_are_decided of omf_image.
use Rattle.omf_image.specs.Inner.Expanding.{expanded_length}
use Rattle.omf_image.specs.Limits.{profile_limits}
use Rattle.omf_image.specs.declared.part.Part.TheVariants as part
use Rattle.omf_records.specs.Layout.{fault}
use Rattle.omf_records.specs.Shortest.{data_bytes, public_bytes, segment_bytes}
use Rattle.omf_records.specs.Values.{At, Contents, Group, Names, Segment, alignment, combination, nowhere, width, is_wide}
-- computed: readings_meet_layouts and contents_are_typed_once of omf_records.
use Rattle.omf_records.specs.Inner.Reading.{typed}
use Rattle.omf_records.specs.Inner.Reads.{and_then}
use Rattle.omf_check.specs.Tables.{defined_names, entry}
use Rattle.omf_lowering.specs.Layouts.{Backpatches, NamedBackpatches}
use Rattle.omf_lowering.specs.Marks.{mark_contents}
-- computed: readings_meet_layouts of omf_lowering.
use Rattle.omf_lowering.specs.Inner.Readers.{nbkpat_whole}
use Rattle.omf_lowering.specs.Patches.{placed, size_or_none}
-- computed: readings_meet_layouts of omf_lowering.
use Rattle.omf_lowering.specs.Values.{BaseItem, ComdatItem, Instance, Resolved, Tables, allocation, is_continued, is_iterated, is_local, is_local_name, selection}
use Rattle.omf_lowering.specs.declared.values.Pattern.{Pattern}
use Rattle.omf_lowering.specs.declared.values.Piece.{Piece}
use Rattle.omf_lowering.specs.declared.values.Patch.{Patch}

-- The tables with what the contents of a record of this type define. The names of an LLNAMES are local to the module (TIS OMF 1.1, "LLNAMES").
abbrev pub defining : Tables → ℕ → Contents → Tables
defining t kind (Names items) = record t { names = t.names ++ defined_names (Names items); locals = t.locals ++ map (λ n. is_local_type kind) items }
defining t kind (Segment s) = record t { segments = t.segments ++ record { attribute = s.attribute; name = s.name.item; class = s.class.item; overlay = s.overlay } ∷ [] }
defining t kind (Group g) = record t { groups = t.groups ++ g.name.item ∷ [] }
defining t kind _ = t

-- The tables with what a record defines. A record of a type that this profile does not read defines nothing.
abbrev pub defined_by : Tables → Raw → Tables
defined_by t r = if is_taken r.kind then defining t r.kind (typed r).contents else t

-- The most segments: an index has 15 bits.
abbrev pub segment_limit : ℕ
segment_limit = 32767

-- A COMDAT that is not continued needs one more segment, and there are too many.
abbrev pub is_full : Tables → List Instance → ComdatItem → Bool
is_full t instances x = not (is_continued x.flags) && nat_le segment_limit (length t.segments + length instances)

-- The number of bytes of the data; of blocks, as of an LIDATA's.
abbrev pub data_size : ℕ → ComdatItem → ℕ
data_size kind x = if is_iterated x.flags then size_or_none (expanded_length (width kind) profile_limits x.bytes) else length x.bytes

-- The end of the data in their segment, below 2^32.
abbrev pub end_by : At ℕ → ℕ → Result ℕ Fault
end_by offset size = if nat_lt (offset.item + size) (2 ^ 32) then Ok (offset.item + size) else Err (fault offset.within reason.OutsideSegment)

-- Whether a linker joins the pieces of a segment with these attributes: it is not absolute, and combined as public (2, 4, 7).
abbrev pub is_joined : ℕ → Bool
is_joined attribute = not (alignment attribute == 0) && is_one_of (2 ∷ 4 ∷ 7 ∷ []) (combination attribute)

-- The segment of an explicit base. One that is absolute, or that no linker joins, is refused (this profile's rule).
abbrev pub joined : At ℕ → Option Pattern → Result Pattern Fault
joined at None = Err (fault at.within (if at.item == 0 then reason.UnsupportedType else reason.UndefinedSegment))
joined at (Some s) = if is_joined s.attribute then Ok s else Err (fault at.within reason.UnsupportedType)

abbrev pub explicit : Tables → BaseItem → Result Pattern Fault
explicit t b = if nat_le b.group.item (length t.groups) then joined b.segment (entry t.segments b.segment.item) else Err (fault b.group.within reason.UndefinedGroup)

-- The index of the first of these names with a text, the first name having the index before + 1; another index if there is none that an index can have.
abbrev pub index_from : ℕ → List ℕ → ℕ → List (List ℕ) → ℕ
index_from other text before [] = other
index_from other text before (n ∷ ns) = if nat_lt before 32767 && bytes_eq n text then before + 1 else index_from other text (before + 1) ns

abbrev pub index_of : ℕ → List ℕ → List (List ℕ) → ℕ
index_of other text names = index_from other text 0 names

-- The class of an allocated COMDAT: far code and 32-bit code have the class CODE, far data and 32-bit data FAR_DATA (this profile's rule).
abbrev pub class_of : ℕ → List ℕ
class_of allocation = if allocation % 2 == 1 then codes "CODE" else codes "FAR_DATA"

-- The segment of a COMDAT that the linker allocates: it has the COMDAT's name, and is public, at paragraphs, and of 32 bits for allocations 3 and 4. Its class
-- and the empty overlay are names of the module, or else the COMDAT's own, so that no name has another index (this profile's rule).
abbrev pub allocated : List (List ℕ) → ComdatItem → Pattern
allocated names x = record {
  attribute = 0x68 + (if nat_lt 2 (allocation x.attributes) then 1 else 0);
  name = x.name.item;
  class = index_of x.name.item (class_of (allocation x.attributes)) names;
  overlay = index_of x.name.item [] names;
}

-- The pattern of a COMDAT's segment.
abbrev pub pattern_of : Tables → ComdatItem → Option BaseItem → Result Pattern Fault
pattern_of t x None = Ok (allocated t.names x)
pattern_of t x (Some b) = explicit t b

-- The text of a name, the entry of the table with its index.
abbrev pub text_by : At ℕ → Option (List ℕ) → Result (List ℕ) Fault
text_by at None = Err (fault at.within reason.UndefinedName)
text_by at (Some n) = Ok n

-- A COMDAT is local if its name is. The local flag of a COMDAT whose name is not local is refused: a CEXTDEF before it is then an EXTDEF, for a public of another module
-- (this profile's rule).
abbrev pub local_by : ComdatItem → Bool → Result Bool Fault
local_by x own = if is_local x.flags && not own then Err (fault x.name.within reason.UnsupportedType) else Ok own

-- The COMDAT of a name.
abbrev pub instance_of : List Instance → List ℕ → Option Instance
instance_of instances text = last (filter (λ i. bytes_eq i.name text) instances)

-- A COMDAT that is continued is of an instance before it; every other one is a new instance, and the only one of its name in the module (this profile's rule).
abbrev pub own_by : Bool → ℕ → Instance → Option Instance → Result Instance Fault
own_by continued within fresh None = if continued then Err (fault within reason.UnsupportedType) else Ok fresh
own_by continued within fresh (Some i) = if continued then Ok i else Err (fault within reason.UnsupportedType)

abbrev pub own_of : List Instance → ComdatItem → Instance → Result Instance Fault
own_of instances x fresh = own_by (is_continued x.flags) x.name.within fresh (instance_of instances fresh.name)

-- A new COMDAT: its segment is after those of the module and of the COMDATs before it.
abbrev pub new_instance : Tables → List Instance → ℕ → List ℕ → Instance
new_instance t instances number text = record { name = text; segment = length t.segments + length instances + 1; number = number }

-- A COMDAT with what it refers to, or its first fault, in the order of its fields.
abbrev pub resolved : Tables → List Instance → ℕ → ℕ → ComdatItem → Result Resolved Fault
resolved t instances number kind x = if is_full t instances x then Err (fault 0 reason.TooMany) else
    and_then (end_by x.offset (data_size kind x)) (λ end.
    and_then (pattern_of t x x.base) (λ pattern.
    and_then (text_by x.name (entry t.names x.name.item)) (λ text.
    and_then (local_by x (is_local_name t.locals x.name.item)) (λ local.
    and_then (own_of instances x (new_instance t instances number text)) (λ own.
    Ok (record { item = x; end = end; pattern = pattern; is_local = local; own = own }))))))

-- The attributes of a COMDAT's segment: the alignment of the COMDAT, or of the pattern if that is 0; the combination and the width of the pattern.
abbrev pub attribute_of : ℕ → ℕ → ℕ
attribute_of align attribute = (if align == 0 then alignment attribute else align) * 32 + combination attribute * 4 + attribute % 2

-- The SEGDEF of a COMDAT; its length is the end of the data.
abbrev pub segdef : Resolved → Raw
segdef r = raw_of 0x99 (segment_bytes 0x99 (record {
  attribute = attribute_of r.item.align r.pattern.attribute;
  absolute = None;
  size = r.end;
  name = nowhere r.pattern.name;
  class = nowhere r.pattern.class;
  overlay = r.pattern.overlay;
}))

-- The group of a COMDAT's base; 0 if there is none.
abbrev pub group_of : Option BaseItem → ℕ
group_of None = 0
group_of (Some b) = b.group.item

-- The PUBDEF of a COMDAT, or the LPUBDEF of one with a local name: its name at the start of its segment.
abbrev pub pubdef : Resolved → Raw
pubdef r = raw_of (if r.is_local then 0xB7 else 0x91)
    (index_bytes (group_of r.item.base) ++ (index_bytes r.own.segment ++ public_bytes 0x91 (record { name = r.own.name; offset = 0; type_index = r.item.type_index })))

-- The LEDATA of a COMDAT, or the LIDATA of one with blocks, in its segment. Its fields have the width of the COMDAT's.
abbrev pub data_kind : ℕ → ℕ → ℕ
data_kind kind flags = (if is_iterated flags then 0xA2 else 0xA0) + kind % 2

abbrev pub data_record : ℕ → Resolved → Raw
data_record kind r = raw_of (data_kind kind r.item.flags) (data_bytes kind (record { segment = nowhere r.own.segment; offset = r.item.offset; bytes = r.item.bytes }))

-- The COMENT of a COMDAT: of class DCH, one of those for user-defined comments, and not to be removed. It keeps how a linker selects among COMDATs of the name
-- (TIS OMF 1.1, "COMENT"; this profile's rule).
abbrev pub mark : Resolved → Raw
mark r = raw_of 0x88 (mark_contents (selection r.item.attributes))

-- The records that replace a COMDAT.
abbrev pub made : ℕ → Resolved → List Raw
made kind r = if is_continued r.item.flags then data_record kind r ∷ [] else segdef r ∷ pubdef r ∷ mark r ∷ data_record kind r ∷ []

-- The instances that a COMDAT adds.
abbrev pub new_of : Resolved → List Instance
new_of r = if is_continued r.item.flags then [] else r.own ∷ []

-- The number of bytes before an end that are past all of these data in a segment.
abbrev pub nearer : ℕ → ℕ → ℕ → Piece → ℕ
nearer segment end left p = if p.segment == segment then min left (end - (p.offset + p.size)) else left

abbrev pub past : ℕ → ℕ → List Piece → ℕ
past segment end pieces = fold (nearer segment end) end pieces

-- What the data of a continued COMDAT add to the length of its segment, in the SEGDEF: so it is the largest end of the COMDAT's data.
abbrev pub growth : List Piece → Resolved → List Patch
growth data_before r = if is_continued r.item.flags
    then record { number = r.own.number; at = 1; part = part.Dword; value = past r.own.segment r.end data_before } ∷ []
    else []

-- What a result gives; nothing if it is a fault.
abbrev pub given_by : {A B : Type 0} → (A → List B) → Result A Fault → List B
given_by f (Ok x) = f x
given_by f (Err e) = []

-- The COMDAT with the name of an NBKPAT, before it.
abbrev pub instance_at : At ℕ → Option Instance → Result Instance Fault
instance_at at None = Err (fault at.within reason.UnsupportedType)
instance_at at (Some i) = Ok i

-- The backpatches of an NBKPAT, as of a BAKPAT for the segment of the COMDAT (TIS OMF 1.1, "NBKPAT").
abbrev pub backpatches_by : Tables → List Instance → NamedBackpatches → Result Backpatches Fault
backpatches_by t instances b =
    and_then (text_by b.name (entry t.names b.name.item)) (λ text.
    and_then (instance_at b.name (instance_of instances text)) (λ i.
    Ok (record { segment = nowhere i.segment; part = b.part; items = b.items })))

-- The values that an NBKPAT's backpatches add, or their first fault.
abbrev pub named_patches : Tables → List Instance → List Piece → NamedBackpatches → Result (List Patch) Fault
named_patches t instances pieces b = and_then (backpatches_by t instances b) (placed pieces)

-- The values that an NBKPAT with these contents adds, or its first fault: of layout, of its name, or else of a location.
abbrev pub named_patches_by : Tables → List Instance → List Piece → ℕ → List ℕ → Result (List Patch) Fault
named_patches_by t instances pieces kind body = and_then ((nbkpat_whole (is_wide kind)).read 3 body) (named_patches t instances pieces)
