-- Segments with A = 6 and A = 7, as segments with A = 4.
use Rattle.std.specs.Prelude.{ℕ, ◌+◌, ◌%◌, ◌==◌, ◌&&◌, nat_le, Bool, List, [], ◌∷◌, is_ok, if◌then◌else◌}
use Rattle.std.specs.List.{list_any}
use Rattle.omf_frame.specs.Bytes.{with_before}
use Rattle.omf_frame.specs.Fields.{index_bytes}
use Rattle.omf_frame.specs.Framing.{Raw, raw_of}
-- computed: readings_meet_layouts of omf_records.
use Rattle.omf_records.specs.Inner.Reading.{read_body}
use Rattle.omf_records.specs.Values.{alignment}
use Rattle.omf_explicit.specs.Explicit.{is_right, is_segdef, segment_count}

-- The attribute byte of a SEGDEF is the first of its contents, and A is its bits 7 to 5 (TIS OMF 1.1, "SEGDEF").
abbrev pub alignment_of : List ℕ → ℕ
alignment_of [] = 0
alignment_of (attribute ∷ rest) = alignment attribute

-- The contents with A = 4.
abbrev pub with_page : List ℕ → List ℕ
with_page [] = []
with_page (attribute ∷ rest) = (0x80 + attribute % 32) ∷ rest

-- A SEGDEF with A = 6 or A = 7 and a right checksum byte that this profile reads with A = 4. (All others stay, and are refused as they are.)
abbrev pub is_changed : Raw → Bool
is_changed r = is_segdef r.kind && (nat_le 6 (alignment_of r.body) && (is_right r && is_ok (read_body r.kind (with_page r.body))))

-- The comment that a segment is at a multiple of 4,096 bytes: a COMENT with the type byte 00H, the class DCH and the segment's index (TIS OMF 1.1, "COMENT": the classes
-- C0H to FFH are for users; this profile's rule).
abbrev pub block_comment : ℕ → Raw
block_comment index = raw_of 0x88 (0x00 ∷ 0xDC ∷ index_bytes index)

-- The comment after a SEGDEF with this index: NASM writes A = 6 for a multiple of 4,096. The standard gives 6 and 7 no meaning; this profile reads 7 as 4.
abbrev pub block_comments : ℕ → Raw → List Raw
block_comments index r = if alignment_of r.body == 6 then block_comment index ∷ [] else []

-- What replaces a record, before which there are this many SEGDEFs less one.
abbrev pub replacement : ℕ → Raw → List Raw
replacement index r = if is_changed r then raw_of r.kind (with_page r.body) ∷ block_comments index r else r ∷ []

-- A module's records with each replaced. A segment's index is its number among the SEGDEFs, from 1.
abbrev pub with_pages : List Raw → List Raw
with_pages rs = with_before (λ before r. replacement (segment_count before + 1) r) [] rs

-- Records are changed if one has A = 6 or 7, and if all segments have indices.
abbrev pub gets_pages : List Raw → Bool
gets_pages rs = list_any is_changed rs && nat_le (segment_count rs) 32767
