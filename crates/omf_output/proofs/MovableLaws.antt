-- The pieces of a module judged one after another.
use Rattle.std.proofs.Common.{◌≡◌, ℕ, List, [], ◌∷◌, ◌++◌, Bool, true, false, cond, map, refl, sym, ◌∙◌, ap, ap₂}
use Rattle.std.specs.Prelude.{◌↔◌, Option, Some, None, ◌&&◌, find, not, option_map}
use Rattle.std.specs.List.{list_all}
use Rattle.std.specs.Option.{option_map_or}
use Rattle.omf_frame.specs.declared.fault.Place.{Place}
use Rattle.omf_records.specs.Values.{Contents, Plain, Iterated, Rec}
use Rattle.omf_reloc.specs.Inner.Pieces.{one_by_one, single_pieces}
use Rattle.omf_reloc.specs.Plain.{Piece, Kept, Fixed, End, PlainFixup, fixups_in, fixups_of_data, pieces}
use Rattle.omf_reloc.proofs.SingleLaws.{fixups-same, singles}
use Rattle.std.specs.Prelude.{flat_map}
use Rattle.omf_output.specs.Exe.Moved.{Movers}
use Rattle.omf_output.specs.Exe.Judged.{contents_move, data_moves, main_start_moves, pieces_move, segment_moves}
use Rattle.omf_output.specs.Exe.Movable.{first_unmoved, located_moves, own_moves, MovingIsDecided}
use Rattle.omf_output.specs.Inner.Walked.{located_from, segment_after}
use Rattle.omf_output.specs.Located.{Located}
use Rattle.omf_output.proofs.LocatedLaws.{walked}
use Rattle.omf_output.specs.Exe.Relocations.{moves_together}

and-assoc : (a b c : Bool) → (a && (b && c)) ≡ ((a && b) && c)
and-assoc true b c = refl
and-assoc false b c = refl

and-swap : (a b c : Bool) → (a && (b && c)) ≡ (b && (a && c))
and-swap true b c = refl
and-swap false true c = refl
and-swap false false c = refl

all-append : {A : Type 0} (test : A → Bool) (xs ys : List A) → list_all test (xs ++ ys) ≡ (list_all test xs && list_all test ys)
all-append test [] ys = refl
all-append test (x ∷ xs) ys = ap (λ b. test x && b) (all-append test xs ys) ∙ and-assoc (test x) (list_all test xs) (list_all test ys)

module _ (mv : Movers) where
  -- The fixups that belong to the last data record.
  abbrev pending : Option ℕ → List (ℕ × PlainFixup) → Bool
  pending None fs = true
  pending (Some segment) fs = list_all (moves_together mv segment) fs

  pending-none : (last : Option ℕ) → pending last [] ≡ true
  pending-none None = refl
  pending-none (Some segment) = refl

  abbrev moves_after : Option ℕ → Piece → Bool
  moves_after last p = own_moves mv p && option_map_or (λ segment. list_all (moves_together mv segment) (fixups_in p)) last true

  abbrev all_after : Option ℕ → List Piece → Bool
  all_after last [] = true
  all_after last (p ∷ ps) = moves_after last p && all_after (segment_after p last) ps

  -- A piece without fixups.
  own-alone : (b : Bool) (last : Option ℕ) → (b && option_map_or (λ segment. list_all (moves_together mv segment) []) last true) ≡ b
  own-alone true None = refl
  own-alone true (Some segment) = refl
  own-alone false last = refl

  abbrev kept_as : ℕ → Contents → Piece
  kept_as kind c = Kept (record { kind = kind; contents = c })

  kept : (kind : ℕ) (c : Contents) (last : Option ℕ) (ps : List Piece) → all_after (segment_after (kept_as kind c) last) ps ≡ (pending (segment_after (kept_as kind c) last) (fixups_of_data ps) && pieces_move mv ps)
      → (moves_after last (kept_as kind c) && all_after (segment_after (kept_as kind c) last) ps)
      ≡ (pending last (fixups_of_data (kept_as kind c ∷ ps)) && (contents_move mv c (fixups_of_data ps) && pieces_move mv ps))
  kept kind (Plain d) last ps e =
      ap (λ b. b && all_after (Some d.segment.item) ps) (own-alone (segment_moves mv d) last)
      ∙ ap (λ b. segment_moves mv d && b) e
      ∙ and-assoc (segment_moves mv d) (list_all (moves_together mv d.segment.item) (fixups_of_data ps)) (pieces_move mv ps)
      ∙ sym (ap (λ b. b && (data_moves mv d (fixups_of_data ps) && pieces_move mv ps)) (pending-none last))
  kept kind (Iterated d) last ps e =
      ap (λ b. b && all_after (Some d.segment.item) ps) (own-alone (segment_moves mv d) last)
      ∙ ap (λ b. segment_moves mv d && b) e
      ∙ and-assoc (segment_moves mv d) (list_all (moves_together mv d.segment.item) (fixups_of_data ps)) (pieces_move mv ps)
      ∙ sym (ap (λ b. b && (data_moves mv d (fixups_of_data ps) && pieces_move mv ps)) (pending-none last))
  kept kind _ last ps e = ap (λ b. b && all_after last ps) (own-alone true last) ∙ e

  fixed : (kind : ℕ) (fs : List PlainFixup) (last : Option ℕ) (ps : List Piece) → all_after last ps ≡ (pending last (fixups_of_data ps) && pieces_move mv ps)
      → (moves_after last (Fixed kind fs) && all_after last ps) ≡ (pending last (map (λ f. (kind, f)) fs ++ fixups_of_data ps) && pieces_move mv ps)
  fixed kind fs None ps e = e
  fixed kind fs (Some segment) ps e =
      let test = moves_together mv segment in
      let own : List (ℕ × PlainFixup) = map (λ f. (kind, f)) fs in
      ap (λ b. list_all test own && b) e
      ∙ and-assoc (list_all test own) (list_all test (fixups_of_data ps)) (pieces_move mv ps)
      ∙ sym (ap (λ b. b && pieces_move mv ps) (all-append test own (fixups_of_data ps)))

  in-order : (last : Option ℕ) (ps : List Piece) → all_after last ps ≡ (pending last (fixups_of_data ps) && pieces_move mv ps)
  in-order last [] = sym (ap (λ b. b && true) (pending-none last))
  in-order last (Kept r ∷ ps) = kept r.kind r.contents last ps (in-order (segment_after (Kept r) last) ps)
  in-order last (Fixed kind fs ∷ ps) = fixed kind fs last ps (in-order last ps)
  in-order last (End kind byte start ∷ ps) =
      ap (λ b. b && all_after last ps) (own-alone (main_start_moves mv byte start) last)
      ∙ ap (λ b. main_start_moves mv byte start && b) (in-order last ps) ∙ and-swap (main_start_moves mv byte start) (pending last (fixups_of_data ps)) (pieces_move mv ps)

  singles-move : (kind : ℕ) (fs : List PlainFixup) (ps : List Piece) → pieces_move mv (singles kind fs ++ ps) ≡ pieces_move mv ps
  singles-move kind [] ps = refl
  singles-move kind (f ∷ fs) ps = singles-move kind fs ps

  single-move : (ps : List Piece) → pieces_move mv (flat_map one_by_one ps) ≡ pieces_move mv ps
  single-move [] = refl
  single-move (Kept r ∷ ps) = ap₂ (λ fs b. contents_move mv r.contents fs && b) (fixups-same ps) (single-move ps)
  single-move (Fixed kind fs ∷ ps) = singles-move kind fs (flat_map one_by_one ps) ∙ single-move ps
  single-move (End kind byte start ∷ ps) = ap (λ b. main_start_moves mv byte start && b) (single-move ps)

  abbrev stays : Located → Bool
  stays x = not (located_moves mv x)

  abbrev first_stay : List Located → Option Place
  first_stay xs = option_map (λ x. x.place) (find stays xs)

  abbrev here : Option ℕ → Place × Piece → Located
  here last x = record { place = x.0; segment = last; piece = x.1 }

  none-true : (last : Option ℕ) (xs : List (Place × Piece)) → first_stay (located_from last xs) ≡ None → all_after last (map (λ x. x.1) xs) ≡ true
  none-true last [] e = refl
  none-true last (x ∷ xs) e = by (moves_after last x.1) e (none-true (segment_after x.1 last) xs)
    where
      by : (b : Bool) → option_map (λ y. y.place) (cond (not b) (Some (here last x)) (find stays (located_from (segment_after x.1 last) xs))) ≡ None
          → (first_stay (located_from (segment_after x.1 last) xs) ≡ None → all_after (segment_after x.1 last) (map (λ x. x.1) xs) ≡ true)
          → (b && all_after (segment_after x.1 last) (map (λ x. x.1) xs)) ≡ true
      by true e rest = rest e
      by false e rest = absurd cc

  true-none : (last : Option ℕ) (xs : List (Place × Piece)) → all_after last (map (λ x. x.1) xs) ≡ true → first_stay (located_from last xs) ≡ None
  true-none last [] e = refl
  true-none last (x ∷ xs) e = by (moves_after last x.1) e (true-none (segment_after x.1 last) xs)
    where
      by : (b : Bool) → (b && all_after (segment_after x.1 last) (map (λ x. x.1) xs)) ≡ true
          → (all_after (segment_after x.1 last) (map (λ x. x.1) xs) ≡ true → first_stay (located_from (segment_after x.1 last) xs) ≡ None)
          → option_map (λ y. y.place) (cond (not b) (Some (here last x)) (find stays (located_from (segment_after x.1 last) xs))) ≡ None
      by true e rest = rest e
      by false e rest = absurd cc

pub moving-decided : MovingIsDecided
moving-decided mv m xs listed =
    let same : all_after mv None (map (λ x. x.1) xs) ≡ pieces_move mv (pieces m) = ap (all_after mv None) listed ∙ in-order mv None (single_pieces m) ∙ single-move mv (pieces m) in
    let found : first_stay mv (located_from None xs) ≡ first_unmoved mv xs = ap (first_stay mv) (walked xs) in
    (λ e. sym same ∙ none-true mv None xs (found ∙ e), λ e. sym found ∙ true-none mv None xs (same ∙ e))

pub decided-by : (mv : Movers) (m : List Rec) (xs : List (Place × Piece)) → map (λ x. x.1) xs ≡ single_pieces m → (o : Option Place) → o ≡ first_unmoved mv xs
    → (o ≡ None) ↔ (pieces_move mv (pieces m) ≡ true)
decided-by mv m xs listed o e = (λ n. (moving-decided mv m xs listed).0 (sym e ∙ n), λ t. e ∙ (moving-decided mv m xs listed).1 t)
