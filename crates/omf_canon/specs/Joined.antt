-- Lists of pieces with joined FIXUPPs, and the same pieces as records: each FIXUPP cut into groups.
use Rattle.std.specs.Prelude.{◌≡◌, ◌≢◌, ℕ, List, [], ◌∷◌, ◌++◌, map, flat_map, max, length, All, true}
use Rattle.omf_reloc.specs.Plain.{Piece, Fixed, PlainFixup}
use Rattle.omf_canon.specs.Cut.{cut}
use Rattle.omf_canon.specs.Skeleton.{is_kept}

-- Every FIXUPP has a fixup, and no two adjacent FIXUPPs have the same type.
pub record IsJoined (ps : List Piece) : Type 0 where
  pub full : All (λ p. is_kept p ≡ true) ps
  pub apart : (front back : List Piece) (kind other : ℕ) (fs gs : List PlainFixup) → ps ≡ front ++ Fixed kind fs ∷ Fixed other gs ∷ back → kind ≢ other

-- The pieces with each fixup in a FIXUPP of its own: the contents and their order, without the grouping of fixups.
abbrev pub piece_parts : Piece → List Piece
piece_parts (Fixed kind fs) = map (λ f. Fixed kind (f ∷ [])) fs
piece_parts p = p ∷ []

abbrev pub parts : List Piece → List Piece
parts ps = flat_map piece_parts ps

-- A piece after the cut: a FIXUPP gives one piece for each group of its greedy cut; any other piece gives itself.
abbrev pub cut_piece : Piece → List Piece
cut_piece (Fixed kind fs) = map (λ g. Fixed kind g) (cut kind fs)
cut_piece p = p ∷ []

abbrev pub cut_pieces : List Piece → List Piece
cut_pieces ps = flat_map cut_piece ps

-- The items of a piece (this profile's rule): a FIXUPP has as many as it has fixups, but at least one; any other piece has one.
abbrev pub piece_items : Piece → ℕ
piece_items (Fixed kind fs) = max 1 (length fs)
piece_items p = 1
