-- What is laid is inside its segment, and what fixups change is inside the data of their LEDATA.
use Rattle.std.proofs.Common.{◌≡◌, ℕ, ◌≤◌, List, [], ◌∷◌, ◌++◌, length, sym, subst}
use Rattle.std.specs.Prelude.{All, map, Ok}
use Rattle.std.proofs.lemmas.List.Elements.{All-nil, All-cons, All-head, All-tail}
use Rattle.omf_records.specs.Values.{Rec, DataItem}
use Rattle.omf_image.specs.Limits.{profile_limits}
use Rattle.omf_image.specs.Overlay.{Laid}
use Rattle.omf_image.specs.Parts.{Addition}
use Rattle.omf_check.specs.Sound.{ModuleHolds}
use Rattle.omf_reloc.specs.Inner.Names.{PartsLieIn, location_start}
use Rattle.omf_reloc.specs.Laws.{location_end, AreInside, LiesInSegment, PatchesLieIn, AllLieInside}
use Rattle.omf_reloc.specs.Offsets.{outcome}
use Rattle.omf_placement.specs.Placement.{Places}
use Rattle.omf_reloc.specs.Plain.{Piece, Kept, PlainFixup, pieces, fixups_of_data}
use Rattle.omf_reloc.proofs.GatherLaws.{Gathered, Once, Repeated, gathered, gathered_piece, gathered_contents, laid_of, laid-gathered}
use Rattle.omf_reloc.proofs.PatchLaws.{stays_inside, parts_inside}
use Rattle.omf_reloc.proofs.WalkLaws.{all-left, all-right, Lies, all-lie}

of-piece : (P : Gathered → Type 0) (before after : List Piece) (p : Piece) → All P (gathered (before ++ p ∷ after)) → All P (gathered_piece p after)
of-piece P [] after p h = all-left P (gathered_piece p after) (gathered after) h
of-piece P (q ∷ before) after p h = of-piece P before after p (all-right P (gathered_piece q (before ++ p ∷ after)) (gathered (before ++ p ∷ after)) h)

module _ (pl : Places) (m : List Rec) where
  abbrev InSegment : Laid → Type 0
  InSegment l = LiesInSegment m l.segment l.offset (length l.bytes)

  one-inside : (g : Gathered) → Lies m g → InSegment (laid_of profile_limits pl g)
  one-inside (Once d fs) h = subst (LiesInSegment m d.segment.item d.offset.item) (sym (stays_inside pl d fs h.1).size) h.0
  one-inside (Repeated kind d fs) h = h

  each-inside : (gs : List Gathered) → All (Lies m) gs → All InSegment (map (laid_of profile_limits pl) gs)
  each-inside [] h = All-nil InSegment
  each-inside (g ∷ gs) h =
      All-cons InSegment (laid_of profile_limits pl g) (map (laid_of profile_limits pl) gs) (one-inside g (All-head (Lies m) g gs h)) (each-inside gs (All-tail (Lies m) g gs h))

  abbrev LieIn : DataItem → ℕ × PlainFixup → Type 0
  LieIn d f = (parts : List Addition) → outcome pl d f ≡ Ok parts → PartsLieIn (length d.bytes) (location_start f) parts

  parts-lie : (d : DataItem) (fs : List (ℕ × PlainFixup)) → AreInside (length d.bytes) fs → All (LieIn d) fs
  parts-lie d [] h = All-nil (LieIn d)
  parts-lie d (f ∷ fs) h =
      All-cons (LieIn d) f fs
      (λ parts e. parts_inside pl d.segment.item d.offset.item f parts (length d.bytes) e (All-head (λ g. location_end g ≤ length d.bytes) f fs h))
      (parts-lie d fs (All-tail (λ g. location_end g ≤ length d.bytes) f fs h))

  patch-lies : (d : DataItem) (fs : List (ℕ × PlainFixup)) → Lies m (Once d fs) → PatchesLieIn pl m d fs
  patch-lies d fs h = record { data_inside = h.0; locations = h.1; parts = parts-lie d fs h.1; stays = stays_inside pl d fs h.1 }

  pub all-inside : ModuleHolds profile_limits m → AllLieInside pl m
  all-inside holds = record {
    each_piece = subst (All InSegment) (sym (laid-gathered profile_limits pl (pieces m))) (each-inside (gathered (pieces m)) (all-lie m holds));
    each_patch = λ before after r d e c. patch-lies d (fixups_of_data after) (All-head (Lies m) (Once d (fixups_of_data after)) []
        (subst (λ x. All (Lies m) (gathered_contents r.kind x (fixups_of_data after))) c
        (of-piece (Lies m) before after (Kept r) (subst (λ ps. All (Lies m) (gathered ps)) e (all-lie m holds)))));
  }
