-- The pieces of the code as pieces of the definitions.
use Rattle.std.specs.Prelude.{[], ◌∷◌, Option, option_map}
use Rattle.omf_frame.specs.declared.fault.Place.{Place}
use Rattle.omf_reloc.specs.Inner.Widths.{fixupp_type, modend_type}
use Rattle.omf_reloc.specs.Plain.{Piece, Kept, Fixed, End}
use Rattle.omf_reloc.specs.declared.pieces.Piece.{Piece as CodePiece}
use Rattle.omf_reloc.specs.declared.pieces.Piece.TheVariants as code

abbrev pub piece_seen : CodePiece → Piece
piece_seen (code.Kept rec) = Kept rec
piece_seen (code.Fixed width fixup) = Fixed (fixupp_type width) (fixup ∷ [])
piece_seen (code.End width type_byte start) = End (modend_type width) type_byte start

abbrev pub placed_seen : Place × CodePiece → Place × Piece
placed_seen x = (x.0, piece_seen x.1)

abbrev pub step_seen : Option (Place × CodePiece) → Option (Place × Piece)
step_seen s = option_map placed_seen s
