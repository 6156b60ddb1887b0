-- The pieces of a module, each with the segment of the data that its fixups are in.
use Rattle.std.specs.Prelude.{ℕ, List, [], ◌∷◌, filter_map, Option, option_map}
use Rattle.omf_frame.specs.Bytes.{last, with_before}
use Rattle.omf_frame.specs.declared.fault.Place.{Place}
use Rattle.omf_reloc.specs.Plain.{Piece, data_of}

-- A piece: its place, and the segment of the last LEDATA or LIDATA before it, if there is one. The fixups of a FIXUPP are in the data of that record (TIS
-- OMF 1.1, "FIXUPP").
pub record Located : Type 0 where
  pub place : Place
  pub segment : Option ℕ
  pub piece : Piece

abbrev pub last_segment : List (Place × Piece) → Option ℕ
last_segment before = option_map (λ d. d.segment.item) (last (filter_map (λ x. data_of x.1) before))

abbrev pub located_after : List (Place × Piece) → Place × Piece → List Located
located_after before x = record { place = x.0; segment = last_segment before; piece = x.1 } ∷ []

abbrev pub located : List (Place × Piece) → List Located
located ps = with_before located_after [] ps
