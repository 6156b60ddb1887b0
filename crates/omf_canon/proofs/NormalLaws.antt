-- The normal pieces of a module, made record by record.
use Rattle.std.proofs.Common.{◌≡◌, ℕ, List, [], ◌∷◌, ◌++◌, refl, sym, ◌∙◌, ap, ap₂}
use Rattle.std.specs.Prelude.{map, flat_map}
use Rattle.std.proofs.lemmas.List.{map-append}
use Rattle.omf_frame.specs.Bytes.{with_before}
use Rattle.omf_records.specs.Values.{Rec, Contents, Subrecord}
use Rattle.omf_check.specs.Tables.{subrecords}
use Rattle.omf_reloc.proofs.SingleLaws.{singles}
use Rattle.omf_reloc.specs.Inner.Pieces.{one_by_one, single_pieces}
use Rattle.omf_reloc.specs.Plain.{Piece, Kept, Fixed, End, PlainFixup, piece_of, pieces}
use Rattle.omf_canon.specs.Skeleton.{normal}

abbrev pub normal_of : List Subrecord → ℕ → Contents → Piece
normal_of earlier kind c = normal (piece_of earlier kind c)

abbrev pub normal_at : List Rec → Rec → List Piece
normal_at before r = normal_of (subrecords before) r.kind r.contents ∷ []

-- The normal pieces, record by record.
abbrev pub normal_pieces : List Rec → List Piece
normal_pieces m = with_before normal_at [] m

abbrev piece_at : List Rec → Rec → List Piece
piece_at before r = piece_of (subrecords before) r.kind r.contents ∷ []

normal-from : (before m : List Rec) → map normal (with_before piece_at before m) ≡ with_before normal_at before m
normal-from before [] = refl
normal-from before (r ∷ m) = ap (λ (ps : List Piece). normal_of (subrecords before) r.kind r.contents ∷ ps) (normal-from (before ++ r ∷ []) m)

pub normal-pieces : (m : List Rec) → map normal (pieces m) ≡ normal_pieces m
normal-pieces m = normal-from [] m

-- One fixup at a time they are the normal ones of the single pieces.
singles-normal : (kind : ℕ) (fs : List PlainFixup) → map normal (singles kind fs) ≡ singles kind fs
singles-normal kind [] = refl
singles-normal kind (f ∷ fs) = ap (λ (ps : List Piece). Fixed kind (f ∷ []) ∷ ps) (singles-normal kind fs)

pub single-normal : (ps : List Piece) → map normal (flat_map one_by_one ps) ≡ flat_map one_by_one (map normal ps)
single-normal [] = refl
single-normal (Kept r ∷ ps) = ap (λ (qs : List Piece). normal (Kept r) ∷ qs) (single-normal ps)
single-normal (End kind byte start ∷ ps) = ap (λ (qs : List Piece). normal (End kind byte start) ∷ qs) (single-normal ps)
single-normal (Fixed kind fs ∷ ps) = map-append normal (singles kind fs) (flat_map one_by_one ps) ∙ ap₂ (λ (xs ys : List Piece). xs ++ ys) (singles-normal kind fs) (single-normal ps)
