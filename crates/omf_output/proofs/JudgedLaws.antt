-- A module that is judged to move moves.
use Rattle.std.proofs.Common.{◌≡◌, ℕ, List, [], ◌∷◌, ◌++◌, Bool, true, refl, sym, ◌∙◌, ap}
use Rattle.std.specs.Prelude.{All, Option, Some, None, nat_le}
use Rattle.std.specs.List.{list_all}
use Rattle.std.proofs.lemmas.Bool.{and_parts, cond-true}
use Rattle.std.proofs.lemmas.List.{append_assoc}
use Rattle.std.proofs.lemmas.List.Elements.{All-nil, All-cons}
use Rattle.omf_records.specs.Values.{Contents, Plain, Iterated, DataItem, Rec}
use Rattle.omf_check.specs.Threads.{PlainReference}
use Rattle.omf_placement.specs.Placement.{Places}
use Rattle.omf_reloc.specs.Laws.{AllAreAdded, AllLieInside}
use Rattle.omf_reloc.specs.Plain.{Piece, Kept, Fixed, End, PlainFixup, data_contents, fixups_of_data, pieces}
use Rattle.omf_reloc.proofs.AddedLaws.{all-added}
use Rattle.omf_reloc.proofs.ReachLaws.{reach-decided}
use Rattle.omf_reloc.proofs.InsideLaws.{all-inside}
use Rattle.omf_output.specs.Exe.Filled.{has_any}
use Rattle.omf_output.specs.Exe.Moved.{Movers, moves, frame_moves, target_moves}
use Rattle.omf_output.specs.Exe.Relocations.{moves_together}
use Rattle.omf_output.specs.Exe.Memory.{AreTogether, ContentsMove, MainStartMoves, PieceMoves, PiecesMove, StartMoves}
use Rattle.omf_output.specs.Exe.Judged.{ContentsApart, contents_move, data_moves, PieceApart, piece_moves, PiecesApart, main_start_moves, pieces_move, segment_moves, start_moves}
use Rattle.omf_output.specs.Exe.Laws.{JudgedMove}

pub all-true : {A : Type 0} (P : A → Type 0) (test : A → Bool) → ((x : A) → test x ≡ true → P x) → (xs : List A) → list_all test xs ≡ true → All P xs
all-true P test f [] e = All-nil P
all-true P test f (x ∷ xs) e = let parts = and_parts (test x) (list_all test xs) e in All-cons P x xs (f x parts.0) (all-true P test f xs parts.1)

data-judged : (mv : Movers) (d : DataItem) (fixups : List (ℕ × PlainFixup)) → data_moves mv d fixups ≡ true → (has_any d.bytes ≡ true → moves mv.segments d.segment.item ≡ true) × AreTogether mv d fixups
data-judged mv d fixups e =
    let parts = and_parts (segment_moves mv d) (list_all (moves_together mv d.segment.item) fixups) e in
    (λ h. sym (cond-true (has_any d.bytes) (moves mv.segments d.segment.item) true h) ∙ parts.0, all-true (λ f. moves_together mv d.segment.item f ≡ true) (moves_together mv d.segment.item) (λ f g. g) fixups parts.1)

start-judged : (mv : Movers) (start : Option PlainReference) → start_moves mv start ≡ true → StartMoves mv start
start-judged mv None e = tt
start-judged mv (Some r) e = let parts = and_parts (frame_moves mv 0 r.target r.frame) (target_moves mv r.target) e in (parts.0, parts.1)

main-judged : (mv : Movers) (byte : ℕ) (start : Option PlainReference) → main_start_moves mv byte start ≡ true → MainStartMoves mv byte start
main-judged mv byte start e t = start-judged mv start (sym (cond-true (nat_le 128 byte) (start_moves mv start) true t) ∙ e)

module _ (mv : Movers) (pl : Places) (m : List Rec) (inside : AllLieInside pl m) (reached : AllAreAdded pl m) where
  contents-judged : (before after : List Piece) (r : Rec) (c : Contents) → pieces m ≡ before ++ Kept r ∷ after → r.contents ≡ c → contents_move mv c (fixups_of_data after) ≡ true
      → ContentsApart mv c (fixups_of_data after) → ContentsMove mv pl c after
  contents-judged before after r (Plain d) e f g h =
      let fixups = fixups_of_data after in
      let judged = data-judged mv d fixups g in
      record {
        segment = judged.0;
        inside = (inside.each_patch before after r d e f).locations;
        together = judged.1;
        reached = reached.fixups before after r d e (ap data_contents f);
        apart = h;
      }
  contents-judged before after r (Iterated d) e f g h = data-judged mv d (fixups_of_data after) g
  contents-judged before after r _ e f g h = tt

  piece-judged : (before after : List Piece) (p : Piece) → pieces m ≡ before ++ p ∷ after → piece_moves mv p after ≡ true → PieceApart mv p after → PieceMoves mv pl p after
  piece-judged before after (Kept r) e g h = contents-judged before after r r.contents e refl g h
  piece-judged before after (Fixed kind fixups) e g h = tt
  piece-judged before after (End kind byte start) e g h = main-judged mv byte start g

  all-judged : (before ps : List Piece) → pieces m ≡ before ++ ps → pieces_move mv ps ≡ true → PiecesApart mv ps → PiecesMove mv pl ps
  all-judged before [] e g h = tt
  all-judged before (p ∷ ps) e g h =
      let parts = and_parts (piece_moves mv p ps) (pieces_move mv ps) g in
      (piece-judged before ps p e parts.0 h.0, all-judged (before ++ p ∷ []) ps (e ∙ sym (append_assoc before (p ∷ []) ps)) parts.1 h.1)

pub judged : JudgedMove
judged m holds reaches movers e h = record {
  movers = movers;
  pieces = all-judged m.movers m.places m.records (all-inside m.places m.records holds) (all-added m.places m.records ((reach-decided m.places m.records).decided.0 reaches)) [] (pieces m.records) refl e h;
}
