-- Whether a module moves, judged from its records and from what moves of it alone (this profile's rule).
use Rattle.std.specs.Prelude.{ℕ, List, [], ◌∷◌, Bool, true, ◌&&◌, nat_le, Option, Some, None, ⊤, if◌then◌else◌}
use Rattle.std.specs.List.{list_all}
use Rattle.omf_records.specs.Values.{Contents, Plain, Iterated, DataItem}
use Rattle.omf_check.specs.Threads.{PlainReference}
use Rattle.omf_reloc.specs.Plain.{Piece, Kept, Fixed, End, PlainFixup, fixups_of_data}
use Rattle.omf_output.specs.Exe.Filled.{has_any}
use Rattle.omf_output.specs.Exe.Moved.{Movers, moves, frame_moves, target_moves}
use Rattle.omf_output.specs.Exe.Relocations.{moves_together, StandApart}

-- The segment of a data record moves, if the record has bytes; so do its fixups.
abbrev pub segment_moves : Movers → DataItem → Bool
segment_moves mv d = if has_any d.bytes then moves mv.segments d.segment.item else true

abbrev pub data_moves : Movers → DataItem → List (ℕ × PlainFixup) → Bool
data_moves mv d fixups = segment_moves mv d && list_all (moves_together mv d.segment.item) fixups

abbrev pub contents_move : Movers → Contents → List (ℕ × PlainFixup) → Bool
contents_move mv (Plain d) fixups = data_moves mv d fixups
contents_move mv (Iterated d) fixups = data_moves mv d fixups
contents_move mv _ fixups = true

-- The frame and the target of a start move.
abbrev pub start_moves : Movers → Option PlainReference → Bool
start_moves mv None = true
start_moves mv (Some r) = frame_moves mv 0 r.target r.frame && target_moves mv r.target

-- The start of a main module moves; that of another need not.
abbrev pub main_start_moves : Movers → ℕ → Option PlainReference → Bool
main_start_moves mv byte start = if nat_le 128 byte then start_moves mv start else true

abbrev pub piece_moves : Movers → Piece → List Piece → Bool
piece_moves mv (Kept r) after = contents_move mv r.contents (fixups_of_data after)
piece_moves mv (Fixed kind fixups) after = true
piece_moves mv (End kind byte start) after = main_start_moves mv byte start

-- All data records of a module move, with their fixups, and so does its start, if it is a main module.
abbrev pub pieces_move : Movers → List Piece → Bool
pieces_move mv [] = true
pieces_move mv (p ∷ ps) = piece_moves mv p ps && pieces_move mv ps

-- In each data record of a module no later location overlaps a relocation word.
abbrev pub ContentsApart : Movers → Contents → List (ℕ × PlainFixup) → Type 0
ContentsApart mv (Plain d) fixups = StandApart mv d.segment.item fixups
ContentsApart mv _ fixups = ⊤

abbrev pub PieceApart : Movers → Piece → List Piece → Type 0
PieceApart mv (Kept r) after = ContentsApart mv r.contents (fixups_of_data after)
PieceApart mv (Fixed kind fixups) after = ⊤
PieceApart mv (End kind byte start) after = ⊤

abbrev pub PiecesApart : Movers → List Piece → Type 0
PiecesApart mv [] = ⊤
PiecesApart mv (p ∷ ps) = PieceApart mv p ps × PiecesApart mv ps
