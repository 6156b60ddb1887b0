-- The rows of a module's fixups (TIS OMF 1.1, "FIXUPP"; their form is this profile's rule).
use Rattle.std.specs.Prelude.{ℕ, ◌+◌, List, [], ◌∷◌, ◌++◌, map, not, Option, Some, None, ◌*◌}
use Rattle.omf_frame.specs.declared.fault.Place.{Place}
use Rattle.omf_frame.specs.Framing.{Raw}
use Rattle.omf_records.specs.Location.{location, row_of}
use Rattle.omf_records.specs.Methods.{kind_number}
use Rattle.omf_records.specs.Values.{DataItem, is_segment_relative, location_offset, location_type, width}
use Rattle.omf_check.specs.Listed.{placed_from}
use Rattle.omf_check.specs.declared.method.FrameMethod.{FrameMethod}
use Rattle.omf_check.specs.declared.method.FrameMethod.TheVariants.{Of, Location as F4, Target as F5}
use Rattle.omf_reloc.specs.Plain.{Piece, Fixed, PlainFixup, data_of}
-- computed: what `pieces_of` of omf_reloc gives, whose contract ties them to the module's pieces.
use Rattle.omf_reloc.specs.Inner.Pieces.{placed_pieces}
use Rattle.omf_c.specs.Tables.{flag}
use Rattle.omf_c.specs.declared.rows.FixupRow.{FixupRow}
use Rattle.omf_c.specs.declared.fixups.DataPlace.{DataPlace}

-- The segment and the offset of the data that fixups change: those of the last data record.
abbrev pub nowhere : DataPlace
nowhere = record { segment = 0; offset = 0 }

abbrev pub place_or : DataPlace → Option DataItem → DataPlace
place_or before None = before
place_or before (Some d) = record { segment = d.segment.item; offset = d.offset.item }

-- The number of a frame method, and its index; 0 if it has none.
abbrev pub frame_number : FrameMethod → ℕ
frame_number (Of t) = kind_number t.kind
frame_number F4 = 4
frame_number F5 = 5

abbrev pub frame_index : FrameMethod → ℕ
frame_index (Of t) = t.index
frame_index F4 = 0
frame_index F5 = 0

-- A fixup of the data at a place, in a FIXUPP of a type.
abbrev pub fixup_row : DataPlace → Place → ℕ → PlainFixup → FixupRow
fixup_row d p kind f = record {
  offset = d.offset + location_offset f.locat;
  segment = d.segment;
  location = location_type f.locat;
  size = (row_of (location_type f.locat)).size;
  is_self_relative = flag (not (is_segment_relative f.locat));
  frame_method = frame_number f.reference.frame;
  frame_index = frame_index f.reference.frame;
  target_method = kind_number f.reference.target.kind;
  target_index = f.reference.target.index;
  displacement = f.reference.displacement;
  bits = 8 * width kind;
  number = p.number;
  within = p.within;
}

-- The rows of a piece, and the data that the fixups after it change.
abbrev pub piece_rows : DataPlace → Place → Piece → List FixupRow
piece_rows d p (Fixed kind fixups) = map (fixup_row d p kind) fixups
piece_rows d p _ = []

-- The rows of pieces, each with the last data record before it.
abbrev pub rows_after : DataPlace → List (Place × Piece) → List FixupRow
rows_after d [] = []
rows_after d (x ∷ xs) = piece_rows d x.0 x.1 ++ rows_after (place_or d (data_of x.1)) xs

-- The fixups of a module, in file order.
abbrev pub fixup_rows : List Raw → List FixupRow
fixup_rows records = rows_after nowhere (placed_pieces (placed_from 0 0 records))
