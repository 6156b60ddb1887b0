-- What a piece must have so that its words can be added.
use Rattle.std.specs.Prelude.{All, ⊤}
use Rattle.omf_image.specs.Painting.{Fits}
use Rattle.omf_reloc.specs.Inner.Measuring.{CanMeasure, measured}
use Rattle.omf_reloc.specs.Plain.{Piece, Kept, Fixed, End}

-- The blocks of an LIDATA expand; the data of a record have offsets of 32 bits. Each piece of a well-formed module is so.
abbrev pub CanTake : Piece → Type 0
CanTake (Kept r) = CanMeasure r × All Fits (measured r)
CanTake (Fixed kind fixups) = ⊤
CanTake (End kind byte start) = ⊤
