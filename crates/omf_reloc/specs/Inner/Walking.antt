-- References resolved by the threads in force, and the steps of a walk over a module's pieces: the image so far and the last data record.
-- Only private functions use these definitions; the contracts of public functions use the definition of the image.
use Rattle.std.specs.Prelude.{◌≡◌, ◌≤◌, ◌+◌, ◌^◌, ⊤, ℕ, List, [], ◌∷◌, length, Option, Some, option_map, option_to_list, unwrap_or, IfSome, IsOk}
use Rattle.omf_records.specs.Inner.Names.{location_size}
use Rattle.omf_records.specs.Values.{Contents, Plain, Iterated, Reference, width, location_type, location_offset, frame_bits, target_bits}
use Rattle.omf_image.specs.Inner.Expanding.{expanded, expanded_length}
use Rattle.omf_image.specs.Limits.{profile_limits}
use Rattle.omf_image.specs.Overlay.{Laid, AreLaidOver}
use Rattle.omf_check.specs.Inner.Judging.{frame_cell, target_cell}
use Rattle.omf_check.specs.Threads.{PlainReference, frame_by}
use Rattle.omf_records.specs.declared.direct_fixup.DirectFixup.{DirectFixup}
use Rattle.omf_records.specs.Methods.{frame_code, kind_of}
use Rattle.omf_check.specs.declared.method.FrameMethod.TheVariants.{Target as F5}
use Rattle.omf_check.specs.Threads.{T0}
use Rattle.omf_check.specs.declared.threads.Threads.{Threads}
use Rattle.omf_reloc.specs.Image.{added}
use Rattle.omf_reloc.specs.Offsets.{outcome_at}
use Rattle.omf_placement.specs.Placement.{Places}
use Rattle.omf_reloc.specs.Plain.{Piece, Kept, Fixed, End, PlainFixup}

-- A reference resolved by the threads in force.
abbrev pub plain_by : Threads → Reference → PlainReference
plain_by threads r = record {
  frame = unwrap_or (frame_cell threads r) F5;
  target = unwrap_or (target_cell threads r) (T0 0);
  displacement = unwrap_or r.displacement 0;
}

abbrev pub plain_fixup_by : Threads → ℕ → Reference → PlainFixup
plain_fixup_by threads locat r = record { locat = locat; reference = plain_by threads r }

-- A fixup that uses no thread.
abbrev pub direct_plain : DirectFixup → PlainFixup
direct_plain d = record {
  locat = d.location;
  reference = record {
    frame = frame_by (frame_code (frame_bits d.fix)) d.frame;
    target = record { kind = kind_of (target_bits d.fix); index = d.target };
    displacement = d.displacement;
  };
}

-- The last data record after a fixup, in a FIXUPP of this type, is applied to it.
abbrev pub with_fixup : Places → ℕ → PlainFixup → Laid → Laid
with_fixup pl kind f l = record l { bytes = added (location_offset f.locat) (outcome_at pl l.segment l.offset (kind, f)) l.bytes }

-- A fixup can be applied: its location is inside the data.
abbrev pub CanAdd : PlainFixup → Laid → Type 0
CanAdd f l = location_offset f.locat + location_size (location_type f.locat) ≤ length l.bytes

-- The segment and the offset of the last data record.
abbrev pub laid_place : Laid → ℕ × ℕ
laid_place l = (l.segment, l.offset)

abbrev pub open_place : Option Laid → Option (ℕ × ℕ)
open_place l = option_map laid_place l

-- The image of the data records before the last, and the last data record.
pub record Walk : Type 0 where
  pub image : List Laid
  pub open_data : Option Laid

-- A data record lays the one before it and becomes the last one.
abbrev pub closed_by : Contents → Option Laid → List Laid
closed_by (Plain d) l = option_to_list l
closed_by (Iterated d) l = option_to_list l
closed_by _ l = []

abbrev pub opened_by : ℕ → Contents → Option Laid → Option Laid
opened_by kind (Plain d) l = Some (record { segment = d.segment.item; offset = d.offset.item; bytes = d.bytes })
opened_by kind (Iterated d) l = Some (record { segment = d.segment.item; offset = d.offset.item; bytes = expanded (width kind) profile_limits d.bytes })
opened_by kind _ l = l

-- The same for a piece. A FIXUPP here has one fixup, which is applied to the last data record.
abbrev pub closed : Piece → Option Laid → List Laid
closed (Kept r) l = closed_by r.contents l
closed (Fixed kind fixups) l = []
closed (End kind byte start) l = []

abbrev pub opened : Places → Piece → Option Laid → Option Laid
opened pl (Kept r) l = opened_by r.kind r.contents l
opened pl (Fixed kind []) l = l
opened pl (Fixed kind (f ∷ fixups)) l = option_map (with_fixup pl kind f) l
opened pl (End kind byte start) l = l

-- The walk after one more piece.
pub record IsNext (pl : Places) (p : Piece) (old new : Walk) : Type 0 where
  pub image : AreLaidOver old.image (closed p old.open_data) new.image
  pub open_data : new.open_data ≡ opened pl p old.open_data

-- A piece can be taken: the last data record's offsets have 32 bits, the blocks of an LIDATA expand, and a fixup can be applied to the last
-- data record.
abbrev pub HasOffsets : Laid → Type 0
HasOffsets l = l.offset + length l.bytes ≤ 2 ^ 32

pub record Expands (kind : ℕ) (bytes : List ℕ) : Type 0 where
  pub short : length bytes ≤ 65534
  pub fits : IsOk (expanded_length (width kind) profile_limits bytes)

abbrev pub CanExpand : ℕ → Contents → Type 0
CanExpand kind (Iterated d) = Expands kind d.bytes
CanExpand kind _ = ⊤

abbrev pub CanTake : Piece → Option Laid → Type 0
CanTake (Kept r) l = CanExpand r.kind r.contents
CanTake (Fixed kind []) l = ⊤
CanTake (Fixed kind (f ∷ fixups)) l = IfSome l (CanAdd f)
CanTake (End kind byte start) l = ⊤

pub record CanWalk (p : Piece) (w : Walk) : Type 0 where
  pub offsets : IfSome w.open_data HasOffsets
  pub piece : CanTake p w.open_data
