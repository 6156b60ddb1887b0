-- The pieces of a module one fixup at a time are the parts of its pieces.
use Rattle.std.proofs.Common.{◌≡◌, List, [], ◌∷◌, ◌++◌, refl, ap₂}
use Rattle.std.specs.Prelude.{flat_map}
use Rattle.omf_reloc.specs.Inner.Pieces.{one_by_one}
use Rattle.omf_reloc.specs.Plain.{Piece, Kept, Fixed, End, pieces}
use Rattle.omf_canon.specs.Joined.{parts, piece_parts}
use Rattle.omf_canon.specs.Laws.{FixupsStandAlone}

one : (p : Piece) → one_by_one p ≡ piece_parts p
one (Kept r) = refl
one (Fixed kind fixups) = refl
one (End kind byte start) = refl

all : (ps : List Piece) → flat_map one_by_one ps ≡ parts ps
all [] = refl
all (p ∷ ps) = ap₂ (λ (xs ys : List Piece). xs ++ ys) (one p) (all ps)

pub stand-alone : FixupsStandAlone
stand-alone m = all (pieces m)
