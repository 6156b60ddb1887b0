-- Alignments of a module's segments and lengths of its communals (TIS OMF 1.1, "SEGDEF", "EXTDEF", "COMDEF").
use Rattle.std.specs.Prelude.{◌≡◌, ℕ, ◌+◌, ◌-◌, ◌*◌, List, [], ◌∷◌, map, flat_map, Bool, ◌&&◌, nat_lt, Option, Some, None, ◌==◌, if◌then◌else◌}
use Rattle.std.specs.BTreeSet.{BTreeSet, contains}
use Rattle.std.specs.List.{cons_option, enumerate_from}
use Rattle.std.specs.Ordering.{nat_cmp}
use Rattle.omf_frame.specs.Bytes.{is_one_of}
use Rattle.omf_records.specs.Values.{Rec, Contents, Comment, Externs, Communals, CommunalSize, Near, Far, alignment}
use Rattle.omf_check.specs.Tables.{attributes}
use Rattle.omf_layout.specs.declared.alignment.Alignment.{Alignment}
use Rattle.omf_layout.specs.declared.alignment.Alignment.TheVariants.{Byte, Word, Paragraph, Page, Dword, Block}

-- The alignment in the A field of an attribute: 1 byte, 2 word, 3 paragraph, 4 page, 5 doubleword. An absolute segment, 0, has none, and counts as a byte.
abbrev pub alignment_named : ℕ → Alignment
alignment_named a = if a == 2 then Word else (if a == 3 then Paragraph else (if a == 4 then Page else (if a == 5 then Dword else Byte)))

-- The alignment in bytes.
abbrev pub bytes_aligned : Alignment → ℕ
bytes_aligned Byte = 1
bytes_aligned Word = 2
bytes_aligned Paragraph = 16
bytes_aligned Page = 256
bytes_aligned Dword = 4
bytes_aligned Block = 4096

-- The index that a text is: one byte, or two, big-endian, if bit 7 of the first is set; that bit does not count (TIS OMF 1.1, "Index Fields"). None if the text
-- has another form.
abbrev pub whole_index : List ℕ → Option ℕ
whole_index (a ∷ []) = if nat_lt a 128 then Some a else None
whole_index (a ∷ b ∷ []) = if nat_lt a 128 then None else Some ((a - 128) * 256 + b)
whole_index _ = None

-- A comment raises a segment from 256 bytes to 4,096: type byte 0, class DCH, and the segment's index (TIS OMF 1.1, "COMENT": the classes C0H to FFH are for
-- users; this profile's rule).
abbrev pub raised_by : Contents → List ℕ
raised_by (Comment type_byte class text) = if (type_byte == 0) && (class == 0xDC) then cons_option (whole_index text) [] else []
raised_by _ = []

-- The segments that the comments of a module raise.
abbrev pub raised : List Rec → List ℕ
raised m = flat_map (λ r. raised_by r.contents) m

-- A set has exactly these.
abbrev pub AreRaised : BTreeSet ℕ → List Rec → Type 0
AreRaised set m = (i : ℕ) → contains nat_cmp set i ≡ is_one_of (raised m) i

-- The alignment of a segment that a comment raises, or none does, by its attribute. Where A is not 4, as in an absolute segment and in one that is left out,
-- a comment raises nothing.
abbrev pub alignment_by : Bool → ℕ → Alignment
alignment_by is_raised attribute = if is_raised && (alignment attribute == 4) then Block else alignment_named (alignment attribute)

-- The alignment of a segment of a module, by its index and its attribute.
abbrev pub alignment_in : List Rec → ℕ → ℕ → Alignment
alignment_in m index attribute = alignment_by (is_one_of (raised m) index) attribute

-- The alignments of the segments, in order.
abbrev pub alignments : List Rec → List Alignment
alignments m = map (λ x. alignment_in m x.0 x.1) (enumerate_from 1 (attributes m))

-- The length of a communal in bytes: near its length, far a number of elements of a size.
abbrev pub room_of : CommunalSize → ℕ
room_of (Near n) = n
room_of (Far count size) = count * size

-- The length of each external, in order: a communal has one, any other none.
abbrev pub rooms_in : Contents → List (Option ℕ)
rooms_in (Externs items) = map (λ e. None) items
rooms_in (Communals items) = map (λ c. Some (room_of c.item.size)) items
rooms_in _ = []

abbrev pub rooms : List Rec → List (Option ℕ)
rooms m = flat_map (λ r. rooms_in r.contents) m
