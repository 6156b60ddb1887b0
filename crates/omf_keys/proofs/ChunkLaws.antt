-- What data records and their fixups give is the same one fixup at a time, and without places.
use Rattle.std.proofs.Common.{◌≡◌, ℕ, List, [], ◌∷◌, ◌++◌, refl, sym, ◌∙◌, ap, ap₂, Bool, true, false, cond}
use Rattle.std.specs.Prelude.{map, flat_map, is_some}
use Rattle.omf_frame.specs.Bytes.{with_after, up_to}
use Rattle.omf_records.specs.Values.{Rec, Contents, Plain, Iterated, alone, contents_alone}
use Rattle.omf_reloc.specs.Inner.Pieces.{one_by_one, single_pieces}
use Rattle.omf_reloc.specs.Plain.{Piece, Kept, Fixed, End, PlainFixup, pieces, data_of, data_contents, fixups_in, fixups_of_data}
use Rattle.omf_reloc.proofs.SingleLaws.{fixups-same}
use Rattle.omf_canon.specs.Skeleton.{normal}
use Rattle.omf_keys.specs.Keys.{bare_pieces, AreAlike}

-- ---- fixups of data

data-alone : (c : Contents) → is_some (data_contents (contents_alone c)) ≡ is_some (data_contents c)
data-alone (Plain d) = refl
data-alone (Iterated d) = refl
data-alone _ = refl

kept-normal : (b d : Bool) (r s : Rec) (ps qs : List Piece) → b ≡ d → fixups_of_data ps ≡ fixups_of_data qs
    → flat_map fixups_in (cond b [] (Kept r ∷ up_to (λ p. is_some (data_of p)) ps)) ≡ flat_map fixups_in (cond d [] (Kept s ∷ up_to (λ p. is_some (data_of p)) qs))
kept-normal true true r s ps qs e h = refl
kept-normal false false r s ps qs e h = h
kept-normal true false r s ps qs e h = absurd cc
kept-normal false true r s ps qs e h = absurd cc

pub fixups-normal : (ps : List Piece) → fixups_of_data (map normal ps) ≡ fixups_of_data ps
fixups-normal [] = refl
fixups-normal (Kept r ∷ ps) = kept-normal _ _ (alone r) r (map normal ps) ps (data-alone r.contents) (fixups-normal ps)
fixups-normal (Fixed kind fs ∷ ps) = ap (λ t. map (λ f. (kind, f)) fs ++ t) (fixups-normal ps)
fixups-normal (End kind byte s ∷ ps) = fixups-normal ps

-- ---- what each piece gives with the fixups after it

-- It sees the fixups alone; a FIXUPP gives nothing; and places and ignored bits do not count.
pub record SeesFixups {A : Type 0} (k : Piece → List Piece → List A) (h : Piece → List (ℕ × PlainFixup) → List A) : Type 0 where
  pub sees : (p : Piece) (after : List Piece) → k p after ≡ h p (fixups_of_data after)
  pub none : (kind : ℕ) (fs : List PlainFixup) (fixups : List (ℕ × PlainFixup)) → h (Fixed kind fs) fixups ≡ []
  pub bare : (p : Piece) (fixups : List (ℕ × PlainFixup)) → h (normal p) fixups ≡ h p fixups

module _ {A : Type 0} (k : Piece → List Piece → List A) (h : Piece → List (ℕ × PlainFixup) → List A) (s : SeesFixups k h) where
  piece-same : (p q : Piece) (ps qs : List Piece) → h p (fixups_of_data qs) ≡ h q (fixups_of_data qs) → fixups_of_data ps ≡ fixups_of_data qs → k p ps ≡ k q qs
  piece-same p q ps qs e f = s.sees p ps ∙ ap (h p) f ∙ e ∙ sym (s.sees q qs)

  fixed-none : (kind : ℕ) (fs : List PlainFixup) (after : List Piece) → k (Fixed kind fs) after ≡ []
  fixed-none kind fs after = s.sees (Fixed kind fs) after ∙ s.none kind fs (fixups_of_data after)

  after-singles : (kind : ℕ) (fs : List PlainFixup) (ps : List Piece) → with_after k (map (λ f. Fixed kind (f ∷ [])) fs ++ ps) ≡ with_after k ps
  after-singles kind [] ps = refl
  after-singles kind (f ∷ fs) ps = ap₂ (λ (xs ys : List A). xs ++ ys) (fixed-none kind (f ∷ []) (map (λ f. Fixed kind (f ∷ [])) fs ++ ps)) (after-singles kind fs ps)

  after-single : (ps : List Piece) → with_after k (flat_map one_by_one ps) ≡ with_after k ps
  after-single [] = refl
  after-single (Kept r ∷ ps) = ap₂ (λ (xs ys : List A). xs ++ ys) (piece-same (Kept r) (Kept r) (flat_map one_by_one ps) ps refl (fixups-same ps)) (after-single ps)
  after-single (End kind byte start ∷ ps) = ap₂ (λ (xs ys : List A). xs ++ ys) (piece-same (End kind byte start) (End kind byte start) (flat_map one_by_one ps) ps refl (fixups-same ps)) (after-single ps)
  after-single (Fixed kind fs ∷ ps) = after-singles kind fs (flat_map one_by_one ps) ∙ after-single ps ∙ sym (ap (λ (xs : List A). xs ++ with_after k ps) (fixed-none kind fs ps))

  after-normal : (ps : List Piece) → with_after k (map normal ps) ≡ with_after k ps
  after-normal [] = refl
  after-normal (p ∷ ps) = ap₂ (λ (xs ys : List A). xs ++ ys) (piece-same (normal p) p (map normal ps) ps (s.bare p (fixups_of_data ps)) (fixups-normal ps)) (after-normal ps)

  after-bare : (m : List Rec) → with_after k (bare_pieces m) ≡ with_after k (pieces m)
  after-bare m = after-normal (single_pieces m) ∙ after-single (pieces m)

  pub after-alike : (m n : List Rec) → AreAlike m n → with_after k (pieces m) ≡ with_after k (pieces n)
  after-alike m n e = sym (after-bare m) ∙ ap (with_after k) e ∙ after-bare n
