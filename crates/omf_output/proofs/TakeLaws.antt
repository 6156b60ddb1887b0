-- The pieces of a well-formed module can be taken, one after the other.
use Rattle.std.proofs.Common.{◌≡◌, ◌∙◌, ℕ, List, [], ◌∷◌, Bool, true, cond, length, ap, sym, arith}
use Rattle.std.specs.Prelude.{All, Option, None, Some}
use Rattle.std.proofs.lemmas.List.Elements.{All-nil, All-cons}
use Rattle.omf_frame.specs.declared.fault.Place.{Place}
use Rattle.omf_records.specs.Values.{Contents, DataItem, Names, Plain, Iterated, Rec, width}
use Rattle.omf_image.specs.Inner.Expanding.{expanded}
use Rattle.omf_image.specs.Limits.{profile_limits}
use Rattle.omf_image.specs.Painting.{Fits}
use Rattle.omf_check.specs.Sound.{ModuleHolds}
use Rattle.omf_placement.specs.Placement.{Places}
use Rattle.omf_reloc.specs.Inner.Measuring.{HasMeasure, measured_contents}
use Rattle.omf_reloc.specs.Inner.Pieces.{single_pieces}
use Rattle.omf_reloc.specs.Plain.{Piece, Kept, Fixed, End}
use Rattle.omf_reloc.proofs.HoldLaws.{KeptHolds, PieceHolds, PiecesHold, PlacedDataHolds, data_after, pieces-hold}
use Rattle.omf_reloc.proofs.WalkLaws.{length-short}
use Rattle.omf_output.specs.Inner.Taking.{CanTake}
use Rattle.omf_output.specs.Exe.Overlaps.{Open, all_words, opened_after, or_place, with_piece}
use Rattle.omf_output.specs.Exe.Moved.{Movers}

module _ (m : List Rec) (holds : ModuleHolds profile_limits m) where
  data-fits : (d : DataItem) (size : ℕ) → PlacedDataHolds m d size → All Fits (record { segment = d.segment.item; first = d.offset.item; len = size } ∷ [])
  data-fits d size h =
      let low = h.lies.inside in
      let short = length-short m holds d.segment.item in
      All-cons Fits (record { segment = d.segment.item; first = d.offset.item; len = size }) [] (omega (arith, low, short)) (All-nil Fits)

  kept-can : (kind : ℕ) (c : Contents) → KeptHolds profile_limits m kind c → HasMeasure kind c × All Fits (measured_contents kind c)
  kept-can kind (Plain d) h = (tt, data-fits d (length d.bytes) h)
  kept-can kind (Iterated d) h = (record { short = h.data_holds.short; fits = h.expands }, data-fits d (length (expanded (width kind) profile_limits d.bytes)) h.data_holds)
  kept-can kind (Names items) h = (tt, All-nil Fits)
  kept-can kind _ h = (tt, All-nil Fits)

  piece-can : (last_one : Option Contents) (p : Piece) (ps : List Piece) → PieceHolds profile_limits m last_one p ps → CanTake p
  piece-can last_one (Kept r) ps h = kept-can r.kind r.contents h
  piece-can last_one (Fixed kind fs) ps h = tt
  piece-can last_one (End kind byte start) ps h = tt

  pieces-can : (last_one : Option Contents) (ps : List Piece) → PiecesHold profile_limits m last_one ps → All CanTake ps
  pieces-can last_one [] h = All-nil CanTake
  pieces-can last_one (p ∷ ps) h = All-cons CanTake p ps (piece-can last_one p ps h.0) (pieces-can (data_after p last_one) ps h.1)

  pub all-can : All CanTake (single_pieces m)
  all-can = pieces-can None (single_pieces m) (pieces-hold profile_limits m holds)

-- After a piece that overlaps no word, the words so far and the pieces left give the same as before.
pub one-taken : (mv : Movers) (pl : Places) (last next : Open) (x : Place × Piece) (xs rest : List (Place × Piece)) (ws more : List ℕ) (b : Bool) → xs ≡ x ∷ rest
    → with_piece mv pl last x.1 ws ≡ cond b (Some more) None → b ≡ true → next ≡ opened_after pl x.1 last → all_words mv pl next rest more ≡ all_words mv pl last xs ws
one-taken mv pl last next x xs rest ws more b e h t f =
    ap (λ o. all_words mv pl o rest more) f
    ∙ sym (ap (λ l. all_words mv pl last l ws) e
    ∙ ap (or_place x.0 (λ w. all_words mv pl (opened_after pl x.1 last) rest w)) (h ∙ ap (λ c. cond c (Some more) None) t))
