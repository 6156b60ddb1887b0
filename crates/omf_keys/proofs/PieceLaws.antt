-- Modules of equal skeletons have the same pieces one fixup at a time, but for their places.
use Rattle.std.proofs.Common.{◌≡◌, ℕ, List, [], ◌∷◌, ◌++◌, refl, sym, ◌∙◌, ap, ap₂}
use Rattle.std.specs.Prelude.{map}
use Rattle.std.proofs.lemmas.List.{map-append}
use Rattle.omf_records.specs.Values.{Rec}
use Rattle.omf_reloc.specs.Plain.{Piece, Kept, Fixed, End, PlainFixup, pieces}
use Rattle.omf_canon.specs.Joined.{parts, piece_parts}
use Rattle.omf_canon.specs.Laws.{SkeletonsAreJoined, SkeletonsAreUnique, FixupsStandAlone}
use Rattle.omf_canon.specs.Skeleton.{normal, skeleton}
use Rattle.omf_keys.specs.Keys.{bare_pieces}

fixed-normal : (kind : ℕ) (fs : List PlainFixup) → map normal (piece_parts (Fixed kind fs)) ≡ piece_parts (Fixed kind fs)
fixed-normal kind [] = refl
fixed-normal kind (f ∷ fs) = ap (λ (ps : List Piece). Fixed kind (f ∷ []) ∷ ps) (fixed-normal kind fs)

piece-normal : (p : Piece) → map normal (piece_parts p) ≡ piece_parts (normal p)
piece-normal (Kept r) = refl
piece-normal (Fixed kind fs) = fixed-normal kind fs
piece-normal (End kind byte start) = refl

pub parts-normal : (ps : List Piece) → map normal (parts ps) ≡ parts (map normal ps)
parts-normal [] = refl
parts-normal (p ∷ ps) = map-append normal (piece_parts p) (parts ps) ∙ ap₂ (λ (xs ys : List Piece). xs ++ ys) (piece-normal p) (parts-normal ps)

module _ (unique : SkeletonsAreUnique) (alone : FixupsStandAlone) where
  -- The bare pieces are the parts of the skeleton.
  bare-parts : (m : List Rec) → bare_pieces m ≡ parts (skeleton m)
  bare-parts m = ap (map normal) (alone m) ∙ parts-normal (pieces m) ∙ sym ((unique (map normal (pieces m)) (skeleton m)).1 refl).1

  pub same-pieces : (m n : List Rec) → skeleton m ≡ skeleton n → bare_pieces m ≡ bare_pieces n
  same-pieces m n h = bare-parts m ∙ ap parts h ∙ sym (bare-parts n)

  -- The other way round.
  pub same-skeletons : SkeletonsAreJoined → (m n : List Rec) → bare_pieces m ≡ bare_pieces n → skeleton m ≡ skeleton n
  same-skeletons joined m n h = (unique (map normal (pieces n)) (skeleton m)).0
      (joined (map normal (pieces m)), sym (bare-parts m) ∙ h ∙ ap (map normal) (alone n) ∙ parts-normal (pieces n))
