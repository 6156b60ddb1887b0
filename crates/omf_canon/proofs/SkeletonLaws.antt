-- The skeleton of a module has the same image: what data records lay looks at the fixups alone.
use Rattle.std.proofs.Common.{◌≡◌, ℕ, List, [], ◌∷◌, ◌++◌, refl, sym, ◌∙◌, ap, ap₂, subst, Bool, true, false, append_assoc}
use Rattle.std.specs.Prelude.{map, flat_map, Option, Some, None, is_some, cond, ◌==◌}
use Rattle.std.proofs.lemmas.Bool.{eqb-true}
use Rattle.std.proofs.lemmas.List.{map-append}
use Rattle.omf_image.specs.declared.limits.Limits.{Limits}
use Rattle.omf_frame.specs.Bytes.{up_to, last}
use Rattle.omf_records.specs.Values.{Rec, Contents, Plain, Iterated, DataItem, contents_alone, alone}
use Rattle.omf_reloc.specs.Plain.{Piece, Kept, Fixed, End, PlainFixup, pieces, fixups_of_data, fixups_in, data_of, data_contents}
use Rattle.omf_placement.specs.Placement.{Places}
use Rattle.omf_image.specs.Overlay.{byte_at}
use Rattle.omf_reloc.specs.Image.{laid, laid_contents, laid_piece, image, patched, start, piece_start}
use Rattle.omf_reloc.specs.Reach.{causes, piece_causes}
use Rattle.omf_reloc.specs.Inner.Names.{causes_at}
use Rattle.omf_reloc.specs.Offsets.{outcome}
use Rattle.std.specs.Result.{result_err}
use Rattle.omf_check.specs.Threads.{PlainReference}
use Rattle.omf_canon.specs.Inner.Names.{end_byte}
use Rattle.omf_canon.specs.Skeleton.{normal, skeleton, skeleton_of, join_front}

-- the fixups of two FIXUPPs of one type, or one after the other
fixups_two : (b : Bool) (kind other : ℕ) (fs gs : List PlainFixup) (ps : List Piece) → (b ≡ true → kind ≡ other)
    → fixups_of_data (cond b (Fixed kind (fs ++ gs) ∷ ps) (Fixed kind fs ∷ Fixed other gs ∷ ps)) ≡ map (λ f. (kind, f)) fs ++ (map (λ f. (other, f)) gs ++ fixups_of_data ps)
fixups_two false kind other fs gs ps same = refl
fixups_two true kind other fs gs ps same =
    let tagged : List PlainFixup → List (ℕ × PlainFixup) = map (λ f. (kind, f)) in
    let P : ℕ → Type 0 = λ k. tagged (fs ++ gs) ++ fixups_of_data ps ≡ tagged fs ++ (map (λ f. (k, f)) gs ++ fixups_of_data ps) in
    subst P (same refl) (ap (λ t. t ++ fixups_of_data ps) (map-append (λ f. (kind, f)) fs gs) ∙ append_assoc (tagged fs) (tagged gs) (fixups_of_data ps))

-- A FIXUPP in front adds its fixups, whether it is joined or not.
fixups-join_front : (kind : ℕ) (fs : List PlainFixup) (ps : List Piece) → fixups_of_data (join_front (Fixed kind fs) ps) ≡ map (λ f. (kind, f)) fs ++ fixups_of_data ps
fixups-join_front kind fs [] = refl
fixups-join_front kind fs (Kept r ∷ ps) = refl
fixups-join_front kind fs (End other byte s ∷ ps) = refl
fixups-join_front kind fs (Fixed other gs ∷ ps) = fixups_two (kind == other) kind other fs gs ps (eqb-true kind other)

-- a record in front that is kept
fixups_kept : (b : Bool) (r : Rec) (ps qs : List Piece) → fixups_of_data ps ≡ fixups_of_data qs
    → flat_map fixups_in (cond b [] (Kept r ∷ up_to (λ p. is_some (data_of p)) ps)) ≡ flat_map fixups_in (cond b [] (Kept r ∷ up_to (λ p. is_some (data_of p)) qs))
fixups_kept true r ps qs h = refl
fixups_kept false r ps qs h = h

fixups-skeleton : (ps : List Piece) → fixups_of_data (skeleton_of ps) ≡ fixups_of_data ps
fixups-skeleton [] = refl
fixups-skeleton (Kept r ∷ ps) = fixups_kept (is_some (data_contents r.contents)) r (skeleton_of ps) ps (fixups-skeleton ps)
fixups-skeleton (Fixed kind [] ∷ ps) = fixups-skeleton ps
fixups-skeleton (Fixed kind (f ∷ fs) ∷ ps) = fixups-join_front kind (f ∷ fs) (skeleton_of ps) ∙ ap (λ t. map (λ g. (kind, g)) (f ∷ fs) ++ t) (fixups-skeleton ps)
fixups-skeleton (End kind byte s ∷ ps) = fixups-skeleton ps

-- They are those of the normal pieces.
data-alone : (c : Contents) → is_some (data_contents (contents_alone c)) ≡ is_some (data_contents c)
data-alone (Plain d) = refl
data-alone (Iterated d) = refl
data-alone _ = refl

kept-normal : (b d : Bool) (r s : Rec) (ps qs : List Piece) → b ≡ d → fixups_of_data ps ≡ fixups_of_data qs
    → flat_map fixups_in (cond b [] (Kept r ∷ up_to (λ p. is_some (data_of p)) ps)) ≡ flat_map fixups_in (cond d [] (Kept s ∷ up_to (λ p. is_some (data_of p)) qs))
kept-normal true true r s ps qs e h = refl
kept-normal false false r s ps qs e h = h
kept-normal true false r s ps qs e h = absurd cc
kept-normal false true r s ps qs e h = absurd cc

fixups-normal : (ps : List Piece) → fixups_of_data (map normal ps) ≡ fixups_of_data ps
fixups-normal [] = refl
fixups-normal (Kept r ∷ ps) = kept-normal _ _ (alone r) r (map normal ps) ps (data-alone r.contents) (fixups-normal ps)
fixups-normal (Fixed kind fs ∷ ps) = ap (λ t. map (λ f. (kind, f)) fs ++ t) (fixups-normal ps)
fixups-normal (End kind byte s ∷ ps) = fixups-normal ps

-- What looks at no FIXUPP looks at none in front, whether it is joined or not.
module _ {A : Type 0} (look : List Piece → A) (passes : (kind : ℕ) (fs : List PlainFixup) (ps : List Piece) → look (Fixed kind fs ∷ ps) ≡ look ps) where
  passes_two : (b : Bool) (kind other : ℕ) (fs gs : List PlainFixup) (ps : List Piece)
      → look (cond b (Fixed kind (fs ++ gs) ∷ ps) (Fixed kind fs ∷ Fixed other gs ∷ ps)) ≡ look (Fixed other gs ∷ ps)
  passes_two false kind other fs gs ps = passes kind fs (Fixed other gs ∷ ps)
  passes_two true kind other fs gs ps = passes kind (fs ++ gs) ps ∙ sym (passes other gs ps)

  passes-join_front : (kind : ℕ) (fs : List PlainFixup) (ps : List Piece) → look (join_front (Fixed kind fs) ps) ≡ look ps
  passes-join_front kind fs [] = passes kind fs []
  passes-join_front kind fs (Kept r ∷ ps) = passes kind fs (Kept r ∷ ps)
  passes-join_front kind fs (End other byte s ∷ ps) = passes kind fs (End other byte s ∷ ps)
  passes-join_front kind fs (Fixed other gs ∷ ps) = passes_two (kind == other) kind other fs gs ps

module _ (limits : Limits) (pl : Places) where
  -- what a data record lays depends on the fixups after it alone
  laid_same : (kind : ℕ) (c : Contents) (ps qs : List Piece) → fixups_of_data ps ≡ fixups_of_data qs → laid_contents limits pl kind c ps ≡ laid_contents limits pl kind c qs
  laid_same kind (Plain d) ps qs h = ap (λ fs. record { segment = d.segment.item; offset = d.offset.item; bytes = patched pl d fs } ∷ []) h
  laid_same kind _ ps qs h = refl

  laid-skeleton : (ps : List Piece) → laid limits pl (skeleton_of ps) ≡ laid limits pl ps
  laid-skeleton [] = refl
  laid-skeleton (Kept r ∷ ps) = ap (λ t. t ++ laid limits pl (skeleton_of ps)) (laid_same r.kind r.contents (skeleton_of ps) ps (fixups-skeleton ps)) ∙ ap (λ t. laid_contents limits pl r.kind r.contents ps ++ t) (laid-skeleton ps)
  laid-skeleton (Fixed kind [] ∷ ps) = laid-skeleton ps
  laid-skeleton (Fixed kind (f ∷ fs) ∷ ps) = passes-join_front (laid limits pl) (λ k gs qs. refl) kind (f ∷ fs) (skeleton_of ps) ∙ laid-skeleton ps
  laid-skeleton (End kind byte s ∷ ps) = laid-skeleton ps

  -- it depends on no place
  laid-contents-alone : (kind : ℕ) (c : Contents) (after : List Piece) → laid_contents limits pl kind (contents_alone c) after ≡ laid_contents limits pl kind c after
  laid-contents-alone kind (Plain d) after = refl
  laid-contents-alone kind (Iterated d) after = refl
  laid-contents-alone kind _ after = refl

  laid-normal : (ps : List Piece) → laid limits pl (map normal ps) ≡ laid limits pl ps
  laid-normal [] = refl
  laid-normal (Kept r ∷ ps) =
      ap (λ t. t ++ laid limits pl (map normal ps)) (laid-contents-alone r.kind r.contents (map normal ps) ∙ laid_same r.kind r.contents (map normal ps) ps (fixups-normal ps))
      ∙ ap (λ t. laid_contents limits pl r.kind r.contents ps ++ t) (laid-normal ps)
  laid-normal (Fixed kind fs ∷ ps) = laid-normal ps
  laid-normal (End kind byte s ∷ ps) = laid-normal ps

  laid-whole : (m : List Rec) → laid limits pl (skeleton m) ≡ laid limits pl (pieces m)
  laid-whole m = laid-skeleton (map normal (pieces m)) ∙ laid-normal (pieces m)

  -- Equal skeletons give equal images.
  pub image-skeleton : (m n : List Rec) → skeleton m ≡ skeleton n → (segment x : ℕ) → image limits pl m segment x ≡ image limits pl n segment x
  image-skeleton m n h segment x = ap (λ l. byte_at l segment x) (sym (laid-whole m) ∙ ap (laid limits pl) h ∙ laid-whole n)

module _ (pl : Places) where
  abbrev starts : List Piece → List (ℕ × ℕ)
  starts ps = flat_map (piece_start pl) ps

  starts-skeleton : (ps : List Piece) → starts (skeleton_of ps) ≡ starts ps
  starts-skeleton [] = refl
  starts-skeleton (Kept r ∷ ps) = starts-skeleton ps
  starts-skeleton (Fixed kind [] ∷ ps) = starts-skeleton ps
  starts-skeleton (Fixed kind (f ∷ fs) ∷ ps) = passes-join_front starts (λ k gs qs. refl) kind (f ∷ fs) (skeleton_of ps) ∙ starts-skeleton ps
  starts-skeleton (End kind byte s ∷ ps) = ap (λ t. piece_start pl (End kind byte s) ++ t) (starts-skeleton ps)

  start-normal : (kind byte : ℕ) (s : Option PlainReference) → piece_start pl (End kind (end_byte byte) s) ≡ piece_start pl (End kind byte s)
  start-normal kind byte None = refl
  start-normal kind byte (Some r) = refl

  starts-normal : (ps : List Piece) → starts (map normal ps) ≡ starts ps
  starts-normal [] = refl
  starts-normal (Kept r ∷ ps) = starts-normal ps
  starts-normal (Fixed kind fs ∷ ps) = starts-normal ps
  starts-normal (End kind byte s ∷ ps) = ap₂ (λ x y. x ++ y) (start-normal kind byte s) (starts-normal ps)

  starts-whole : (m : List Rec) → starts (skeleton m) ≡ starts (pieces m)
  starts-whole m = starts-skeleton (map normal (pieces m)) ∙ starts-normal (pieces m)

  pub start-skeleton : (m n : List Rec) → skeleton m ≡ skeleton n → start pl m ≡ start pl n
  start-skeleton m n h = ap last (sym (starts-whole m) ∙ ap starts h ∙ starts-whole n)

  causes_same : (d : Option DataItem) (ps qs : List Piece) → fixups_of_data ps ≡ fixups_of_data qs → causes_at pl d ps ≡ causes_at pl d qs
  causes_same None ps qs h = refl
  causes_same (Some d) ps qs h = ap (λ fs. map (λ f. result_err (outcome pl d f)) fs) h

  end_causes : (kind byte : ℕ) (s : Option PlainReference) (ps qs : List Piece) → piece_causes pl (End kind byte s) ps ≡ piece_causes pl (End kind byte s) qs
  end_causes kind byte None ps qs = refl
  end_causes kind byte (Some r) ps qs = refl

  causes-skeleton : (ps : List Piece) → causes pl (skeleton_of ps) ≡ causes pl ps
  causes-skeleton [] = refl
  causes-skeleton (Kept r ∷ ps) = ap (λ t. t ++ causes pl (skeleton_of ps)) (causes_same (data_contents r.contents) (skeleton_of ps) ps (fixups-skeleton ps)) ∙ ap (λ t. causes_at pl (data_contents r.contents) ps ++ t) (causes-skeleton ps)
  causes-skeleton (Fixed kind [] ∷ ps) = causes-skeleton ps
  causes-skeleton (Fixed kind (f ∷ fs) ∷ ps) = passes-join_front (causes pl) (λ k gs qs. refl) kind (f ∷ fs) (skeleton_of ps) ∙ causes-skeleton ps
  causes-skeleton (End kind byte s ∷ ps) = ap (λ t. t ++ causes pl (skeleton_of ps)) (end_causes kind byte s (skeleton_of ps) ps) ∙ ap (λ t. piece_causes pl (End kind byte s) ps ++ t) (causes-skeleton ps)

  causes-alone : (c : Contents) (after : List Piece) → causes_at pl (data_contents (contents_alone c)) after ≡ causes_at pl (data_contents c) after
  causes-alone (Plain d) after = refl
  causes-alone (Iterated d) after = refl
  causes-alone _ after = refl

  end-normal : (kind byte : ℕ) (s : Option PlainReference) (ps qs : List Piece) → piece_causes pl (End kind (end_byte byte) s) ps ≡ piece_causes pl (End kind byte s) qs
  end-normal kind byte None ps qs = refl
  end-normal kind byte (Some r) ps qs = refl

  causes-normal : (ps : List Piece) → causes pl (map normal ps) ≡ causes pl ps
  causes-normal [] = refl
  causes-normal (Kept r ∷ ps) = ap₂ (λ x y. x ++ y) (causes-alone r.contents (map normal ps) ∙ causes_same (data_contents r.contents) (map normal ps) ps (fixups-normal ps)) (causes-normal ps)
  causes-normal (Fixed kind fs ∷ ps) = causes-normal ps
  causes-normal (End kind byte s ∷ ps) = ap₂ (λ x y. x ++ y) (end-normal kind byte s (map normal ps) ps) (causes-normal ps)

  causes-whole : (m : List Rec) → causes pl (skeleton m) ≡ causes pl (pieces m)
  causes-whole m = causes-skeleton (map normal (pieces m)) ∙ causes-normal (pieces m)

  pub cause-skeleton : (m n : List Rec) → skeleton m ≡ skeleton n → causes pl (pieces m) ≡ causes pl (pieces n)
  cause-skeleton m n h = sym (causes-whole m) ∙ ap (causes pl) h ∙ causes-whole n
