-- Pieces mean the same where each fixup is a piece of its own.
use Rattle.std.proofs.Common.{◌≡◌, ℕ, List, [], ◌∷◌, ◌++◌, Bool, true, false, refl, ◌∙◌, ap, ap₂, cond}
use Rattle.std.specs.Prelude.{map, flat_map, is_some, Option, Some, None}
use Rattle.std.specs.Result.{result_err}
use Rattle.omf_frame.specs.Bytes.{up_to}
use Rattle.omf_image.specs.Overlay.{Laid}
use Rattle.omf_image.specs.declared.limits.Limits.{Limits}
use Rattle.omf_records.specs.Values.{Contents, Plain, Iterated, DataItem}
use Rattle.omf_reloc.specs.Image.{laid, laid_contents, patched}
use Rattle.omf_reloc.specs.Offsets.{outcome}
use Rattle.omf_reloc.specs.Inner.Pieces.{one_by_one}
use Rattle.omf_placement.specs.Placement.{Places}
use Rattle.omf_reloc.specs.Plain.{Piece, Kept, Fixed, End, PlainFixup, data_contents, data_of, fixups_in, fixups_of_data}
use Rattle.omf_reloc.specs.Reach.{causes, piece_causes}
use Rattle.omf_reloc.specs.Inner.Names.{causes_at}

abbrev pub singles : ℕ → List PlainFixup → List Piece
singles kind fs = map (λ f. Fixed kind (f ∷ [])) fs

abbrev tagged : ℕ → List PlainFixup → List (ℕ × PlainFixup)
tagged kind fs = map (λ f. (kind, f)) fs

abbrev is_data : Piece → Bool
is_data p = is_some (data_of p)

-- The fixups up to the next data record.
pub fixups-singles : (kind : ℕ) (fs : List PlainFixup) (ps : List Piece) → fixups_of_data (singles kind fs ++ ps) ≡ tagged kind fs ++ fixups_of_data ps
fixups-singles kind [] ps = refl
fixups-singles kind (f ∷ fs) ps = ap (λ xs. (kind, f) ∷ xs) (fixups-singles kind fs ps)

kept-same : (b : Bool) (p : Piece) (ps qs : List Piece) → fixups_in p ≡ [] → flat_map fixups_in ps ≡ flat_map fixups_in qs → flat_map fixups_in (cond b [] (p ∷ ps)) ≡ flat_map fixups_in (cond b [] (p ∷ qs))
kept-same true p ps qs e h = refl
kept-same false p ps qs e h = ap (λ xs. fixups_in p ++ xs) h

pub fixups-same : (ps : List Piece) → fixups_of_data (flat_map one_by_one ps) ≡ fixups_of_data ps
fixups-same [] = refl
fixups-same (Kept r ∷ ps) = kept-same (is_some (data_contents r.contents)) (Kept r) (up_to is_data (flat_map one_by_one ps)) (up_to is_data ps) refl (fixups-same ps)
fixups-same (Fixed kind fs ∷ ps) = fixups-singles kind fs (flat_map one_by_one ps) ∙ ap (λ xs. tagged kind fs ++ xs) (fixups-same ps)
fixups-same (End kind byte s ∷ ps) = fixups-same ps

-- Causes.
causes-at : (pl : Places) (o : Option DataItem) (ps qs : List Piece) → fixups_of_data ps ≡ fixups_of_data qs → causes_at pl o ps ≡ causes_at pl o qs
causes-at pl None ps qs e = refl
causes-at pl (Some d) ps qs e = ap (λ fs. map (λ f. result_err (outcome pl d f)) fs) e

causes-singles : (pl : Places) (kind : ℕ) (fs : List PlainFixup) (ps : List Piece) → causes pl (singles kind fs ++ ps) ≡ causes pl ps
causes-singles pl kind [] ps = refl
causes-singles pl kind (f ∷ fs) ps = causes-singles pl kind fs ps

pub causes-same : (pl : Places) (ps : List Piece) → causes pl (flat_map one_by_one ps) ≡ causes pl ps
causes-same pl [] = refl
causes-same pl (Kept r ∷ ps) = ap₂ (λ xs ys. xs ++ ys) (causes-at pl (data_contents r.contents) (flat_map one_by_one ps) ps (fixups-same ps)) (causes-same pl ps)
causes-same pl (Fixed kind fs ∷ ps) = causes-singles pl kind fs (flat_map one_by_one ps) ∙ causes-same pl ps
causes-same pl (End kind byte None ∷ ps) = causes-same pl ps
causes-same pl (End kind byte (Some r) ∷ ps) = ap (λ xs. piece_causes pl (End kind byte (Some r)) ps ++ xs) (causes-same pl ps)

-- What is laid.
laid-contents-same : (limits : Limits) (pl : Places) (kind : ℕ) (c : Contents) (ps qs : List Piece) → fixups_of_data ps ≡ fixups_of_data qs → laid_contents limits pl kind c ps ≡ laid_contents limits pl kind c qs
laid-contents-same limits pl kind (Plain d) ps qs e = ap (λ fs. let l : Laid = record { segment = d.segment.item; offset = d.offset.item; bytes = patched pl d fs } in l ∷ []) e
laid-contents-same limits pl kind (Iterated d) ps qs e = refl
laid-contents-same limits pl kind _ ps qs e = refl

laid-singles : (limits : Limits) (pl : Places) (kind : ℕ) (fs : List PlainFixup) (ps : List Piece) → laid limits pl (singles kind fs ++ ps) ≡ laid limits pl ps
laid-singles limits pl kind [] ps = refl
laid-singles limits pl kind (f ∷ fs) ps = laid-singles limits pl kind fs ps

pub laid-same : (limits : Limits) (pl : Places) (ps : List Piece) → laid limits pl (flat_map one_by_one ps) ≡ laid limits pl ps
laid-same limits pl [] = refl
laid-same limits pl (Kept r ∷ ps) = ap₂ (λ xs ys. xs ++ ys) (laid-contents-same limits pl r.kind r.contents (flat_map one_by_one ps) ps (fixups-same ps)) (laid-same limits pl ps)
laid-same limits pl (Fixed kind fs ∷ ps) = laid-singles limits pl kind fs (flat_map one_by_one ps) ∙ laid-same limits pl ps
laid-same limits pl (End kind byte s ∷ ps) = laid-same limits pl ps
