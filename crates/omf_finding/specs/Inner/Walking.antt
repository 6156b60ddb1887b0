-- The steps of the walk that makes a pattern: the bytes of data records, and marks: 0 for each byte of a data record, and then 1 for each
-- byte of a location. Only private functions use these definitions.
use Rattle.std.specs.Prelude.{◌≡◌, ℕ, ◌+◌, ◌==◌, ◌^◌, ◌≤◌, ⊤, List, [], ◌∷◌, ◌++◌, length, map, replicate, Bool, Option, Some, None, option_map, unwrap_or, IfSome}
use Rattle.omf_records.specs.Values.{Contents, Plain, Iterated, width, location_offset, location_type}
use Rattle.omf_records.specs.Inner.Names.{location_size}
use Rattle.omf_image.specs.Inner.Expanding.{expanded}
use Rattle.omf_image.specs.Limits.{profile_limits}
use Rattle.omf_image.specs.Overlay.{Laid, byte_at, AreLaidOver}
use Rattle.omf_reloc.specs.Inner.ReachSteps.{place_after}
use Rattle.omf_reloc.specs.Inner.Walking.{CanExpand}
use Rattle.omf_reloc.specs.Plain.{Piece, Kept, Fixed, End, PlainFixup}
use Rattle.omf_finding.specs.declared.patterning.PatternByte.{PatternByte}

-- The two images of a pattern.
pub record Marks : Type 0 where
  pub values : List Laid
  pub marks : List Laid

abbrev pub is_marked : Option ℕ → Bool
is_marked mark = unwrap_or mark 0 == 1

abbrev pub byte_with : Option ℕ → Option ℕ → Option PatternByte
byte_with value mark = option_map (λ b. record { value = b; is_open = is_marked mark }) value

abbrev pub byte_in : Marks → ℕ → ℕ → Option PatternByte
byte_in p segment x = byte_with (byte_at p.values segment x) (byte_at p.marks segment x)

-- The bytes that a data record lays before its fixups.
abbrev pub raw_contents : ℕ → Contents → List Laid
raw_contents kind (Plain d) = record { segment = d.segment.item; offset = d.offset.item; bytes = d.bytes } ∷ []
raw_contents kind (Iterated d) = record { segment = d.segment.item; offset = d.offset.item; bytes = expanded (width kind) profile_limits d.bytes } ∷ []
raw_contents kind _ = []

abbrev pub raw_of : Piece → List Laid
raw_of (Kept r) = raw_contents r.kind r.contents
raw_of _ = []

abbrev pub unmarked : Laid → Laid
unmarked l = record l { bytes = replicate (length l.bytes) 0 }

-- The location of a fixup, where the data are at this offset of a segment.
abbrev pub marked : ℕ × ℕ → PlainFixup → Laid
marked place f = record { segment = place.0; offset = place.1 + location_offset f.locat; bytes = replicate (location_size (location_type f.locat)) 1 }

abbrev pub marked_all : Option (ℕ × ℕ) → List PlainFixup → List Laid
marked_all None fixups = []
marked_all (Some place) fixups = map (marked place) fixups

abbrev pub marks_contents : ℕ → Contents → List Laid
marks_contents kind c = map unmarked (raw_contents kind c)

abbrev pub marks_of : Option (ℕ × ℕ) → Piece → List Laid
marks_of place (Kept r) = marks_contents r.kind r.contents
marks_of place (Fixed kind fixups) = marked_all place fixups
marks_of place (End kind byte start) = []

abbrev pub all_marks : Option (ℕ × ℕ) → List Piece → List Laid
all_marks place [] = []
all_marks place (p ∷ ps) = marks_of place p ++ all_marks (place_after p place) ps

-- The walk: its images, and the place of the last data record.
pub record Walk : Type 0 where
  pub values : List Laid
  pub marks : List Laid
  pub last_place : Option (ℕ × ℕ)

-- The walk after one more piece.
pub record IsNext (p : Piece) (old new : Walk) : Type 0 where
  pub values : AreLaidOver old.values (raw_of p) new.values
  pub marks : AreLaidOver old.marks (marks_of old.last_place p) new.marks
  pub place : new.last_place ≡ place_after p old.last_place

-- A piece can be taken: the blocks of an LIDATA expand, and offsets have 32 bits.
abbrev pub FitsContents : ℕ → Contents → Type 0
FitsContents kind (Plain d) = d.offset.item + length d.bytes ≤ 2 ^ 32
FitsContents kind (Iterated d) = d.offset.item + length (expanded (width kind) profile_limits d.bytes) ≤ 2 ^ 32
FitsContents kind _ = ⊤

abbrev pub CanMark : PlainFixup → ℕ × ℕ → Type 0
CanMark f place = place.1 + location_offset f.locat + location_size (location_type f.locat) ≤ 2 ^ 32

abbrev pub CanTake : Piece → Option (ℕ × ℕ) → Type 0
CanTake (Kept r) place = CanExpand r.kind r.contents × FitsContents r.kind r.contents
CanTake (Fixed kind []) place = ⊤
CanTake (Fixed kind (f ∷ fixups)) place = IfSome place (CanMark f)
CanTake (End kind byte start) place = ⊤
