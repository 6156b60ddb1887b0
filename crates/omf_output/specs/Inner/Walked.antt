-- The pieces of a module, each with the segment of the data before it, as a walk gives them that keeps this segment.
use Rattle.std.specs.Prelude.{ℕ, List, [], ◌∷◌, Option, option_map}
use Rattle.std.specs.Option.{option_or}
use Rattle.omf_frame.specs.declared.fault.Place.{Place}
use Rattle.omf_reloc.specs.Plain.{Piece, data_of}
use Rattle.omf_output.specs.Located.{Located}

-- The segment of the last data record, after one more piece.
abbrev pub segment_after : Piece → Option ℕ → Option ℕ
segment_after p last = option_or (option_map (λ d. d.segment.item) (data_of p)) last

abbrev pub located_from : Option ℕ → List (Place × Piece) → List Located
located_from last [] = []
located_from last (x ∷ xs) = record { place = x.0; segment = last; piece = x.1 } ∷ located_from (segment_after x.1 last) xs
