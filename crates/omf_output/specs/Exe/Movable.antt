-- The first part of a module that does not move with the program (this profile's rule).
use Rattle.std.specs.Prelude.{◌≡◌, ◌↔◌, List, map, find, not, ◌&&◌, Bool, true, Option, None, option_map}
use Rattle.std.specs.List.{list_all}
use Rattle.std.specs.Option.{option_map_or}
use Rattle.omf_frame.specs.declared.fault.Place.{Place}
use Rattle.omf_records.specs.Values.{Rec}
-- computed: threads_give_references and faults_are_walked of omf_reloc.
use Rattle.omf_reloc.specs.Inner.Pieces.{single_pieces}
use Rattle.omf_reloc.specs.Plain.{Piece, Kept, Fixed, End, data_contents, fixups_in, pieces}
use Rattle.omf_output.specs.Exe.Moved.{Movers}
use Rattle.omf_output.specs.Exe.Judged.{main_start_moves, pieces_move, segment_moves}
use Rattle.omf_output.specs.Exe.Relocations.{moves_together}
use Rattle.omf_output.specs.Located.{Located, located}

-- Whether a piece moves: the segment of a data record that has bytes; each fixup with its data; the start of a main module.
abbrev pub own_moves : Movers → Piece → Bool
own_moves mv (Kept r) = option_map_or (segment_moves mv) (data_contents r.contents) true
own_moves mv (Fixed kind fixups) = true
own_moves mv (End kind byte start) = main_start_moves mv byte start

abbrev pub located_moves : Movers → Located → Bool
located_moves mv x = own_moves mv x.piece && option_map_or (λ segment. list_all (moves_together mv segment) (fixups_in x.piece)) x.segment true

-- The place of the first piece that does not move.
abbrev pub first_unmoved : Movers → List (Place × Piece) → Option Place
first_unmoved mv ps = option_map (λ x. x.place) (find (λ x. not (located_moves mv x)) (located ps))

-- Where the pieces of a module are read one fixup at a time, there is none that does not move exactly if all move.
abbrev pub MovingIsDecided : Type 0
MovingIsDecided = (mv : Movers) (m : List Rec) (xs : List (Place × Piece)) → map (λ x. x.1) xs ≡ single_pieces m
    → (first_unmoved mv xs ≡ None) ↔ (pieces_move mv (pieces m) ≡ true)
