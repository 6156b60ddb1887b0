-- The image and the start address of a module at a placement.
use Rattle.std.specs.Prelude.{ℕ, List, [], ◌∷◌, flat_map, fold, Option, Some, option_to_list, Result, Ok, Err}
use Rattle.std.specs.Result.{result_ok}
use Rattle.omf_image.specs.declared.limits.Limits.{Limits}
use Rattle.omf_reloc.specs.declared.fault.Cause.{Cause}
use Rattle.omf_frame.specs.Bytes.{with_after, last}
use Rattle.omf_records.specs.Values.{Rec, Contents, Plain, Iterated, DataItem, width, location_offset}
-- computed: blocks_are_read and lengths_are_decided of omf_image.
use Rattle.omf_image.specs.Inner.Expanding.{expanded}
use Rattle.omf_image.specs.Parts.{Addition, add_parts}
use Rattle.omf_image.specs.Overlay.{Laid, byte_at}
use Rattle.omf_reloc.specs.Plain.{Piece, Kept, End, PlainFixup, pieces, fixups_of_data}
use Rattle.omf_placement.specs.Placement.{Places}
use Rattle.omf_reloc.specs.Offsets.{outcome, start_outcome}

-- The data after one fixup is applied at its location. A fixup that does not reach changes nothing; at a placement that reaches there is
-- none.
abbrev pub added : ℕ → Result (List Addition) Cause → List ℕ → List ℕ
added pos (Ok parts) bytes = add_parts pos parts bytes
added pos (Err c) bytes = bytes

-- The data of an LEDATA after its fixups are applied in file order. Locations may overlap: each fixup adds to the current bytes.
abbrev pub patched : Places → DataItem → List (ℕ × PlainFixup) → List ℕ
patched pl d fixups = fold (λ bytes f. added (location_offset f.1.locat) (outcome pl d f) bytes) d.bytes fixups

-- The bytes that each data record lays in its segment: the patched data of an LEDATA, the expanded blocks of an LIDATA.
abbrev pub laid_contents : Limits → Places → ℕ → Contents → List Piece → List Laid
laid_contents limits pl kind (Plain d) after = record { segment = d.segment.item; offset = d.offset.item; bytes = patched pl d (fixups_of_data after) } ∷ []
laid_contents limits pl kind (Iterated d) after = record { segment = d.segment.item; offset = d.offset.item; bytes = expanded (width kind) limits d.bytes } ∷ []
laid_contents limits pl kind _ after = []

abbrev pub laid_piece : Limits → Places → Piece → List Piece → List Laid
laid_piece limits pl (Kept r) after = laid_contents limits pl r.kind r.contents after
laid_piece limits pl _ after = []

abbrev pub laid : Limits → Places → List Piece → List Laid
laid limits pl ps = with_after (laid_piece limits pl) ps

-- The byte of the image at an offset of a segment: that of the last data record, in file order, that covers it.
abbrev pub image : Limits → Places → List Rec → ℕ → ℕ → Option ℕ
image limits pl m segment x = byte_at (laid limits pl (pieces m)) segment x

-- The start address (TIS OMF 1.1, "MODEND"): the selector of its frame, and its offset.
abbrev pub piece_start : Places → Piece → List (ℕ × ℕ)
piece_start pl (End kind byte (Some r)) = option_to_list (result_ok (start_outcome pl kind r))
piece_start pl _ = []

abbrev pub start : Places → List Rec → Option (ℕ × ℕ)
start pl m = last (flat_map (piece_start pl) (pieces m))
