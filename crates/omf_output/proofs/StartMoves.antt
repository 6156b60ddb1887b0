-- The start of a module that moves, and whether its placement reaches.
use Rattle.std.proofs.Common.{◌≡◌, ℕ, zero, suc, ◌+◌, ◌*◌, ◌-◌, List, [], ◌∷◌, ◌++◌, Bool, true, false, cond, length, map, flat_map, refl, sym, ◌∙◌, ap, ap₂}
use Rattle.std.specs.Prelude.{Option, Some, None, option_map, option_to_list, unwrap_or, slice_get, nat_le, Result, Ok, Err}
use Rattle.std.specs.Option.{option_zip}
use Rattle.std.specs.Result.{result_err, result_ok}
use Rattle.std.specs.List.{last_or}
use Rattle.std.proofs.lemmas.List.{map-append}
use Rattle.std.proofs.lemmas.List.Elements.{All-head, All-tail, All-same}
use Rattle.omf_frame.specs.Bytes.{last}
use Rattle.omf_records.specs.Inner.Names.{width_bits}
use Rattle.omf_records.specs.Values.{Contents, Plain, Iterated, DataItem}
use Rattle.omf_check.specs.Threads.{PlainReference}
use Rattle.omf_image.specs.Parts.{Addition}
use Rattle.omf_placement.specs.declared.frame.Frame.{Frame}
use Rattle.omf_placement.specs.declared.frame.Placed.{Placed}
use Rattle.omf_placement.specs.Placement.{Places, absolute_place, framed, place_of}
use Rattle.omf_reloc.specs.Inner.Names.{start_in, map_ok, first_or, if_named, causes_at}
use Rattle.omf_reloc.specs.declared.fault.Cause.{Cause}
use Rattle.omf_reloc.specs.declared.fault.Cause.TheVariants as cause
use Rattle.omf_reloc.specs.Image.{piece_start}
use Rattle.omf_reloc.specs.Offsets.{offsets, outcome, start_outcome}
use Rattle.omf_reloc.specs.Plain.{Piece, Kept, Fixed, End, PlainFixup, data_contents, fixups_of_data, pieces}
use Rattle.omf_reloc.specs.Reach.{causes, piece_causes}
use Rattle.omf_reloc.proofs.ReachLaws.{reach-decided}
use Rattle.omf_output.specs.declared.exe.movers.Moving.{Moving}
use Rattle.omf_output.specs.Exe.Moved.{Movers, AreMoversOf, moved, moved_frame, moved_place, moving_of, parted_place, where_moving, where_parted}
use Rattle.omf_output.specs.Exe.Relocations.{moves_together, more, selector_moving}
use Rattle.omf_output.specs.Exe.Memory.{AllStart, AreTogether, ContentsMove, PieceMoves, PieceStarts, PiecesMove, StartMoves, moved_start}
use Rattle.omf_output.specs.Exe.Laws.{PlacementsReach, StartsMove}
use Rattle.omf_output.proofs.OutcomeMoves.{offsets-move, outcomes}
use Rattle.omf_output.proofs.PlaceMoves.{place_moves}

last-map : {A B : Type 0} (f : A → B) (d : Option A) (xs : List A) → last_or (option_map f d) (map f xs) ≡ option_map f (last_or d xs)
last-map f d [] = refl
last-map f d (x ∷ xs) = last-map f (Some x) xs

start-frame : (k w u : ℕ) (frame : Frame) (address : ℕ) → start_in w u (moved_frame k frame) (address + 16 * k) ≡ map_ok (moved_start k) (start_in w u frame address)
start-frame k w u frame address =
    ap (λ os. map_ok (λ o. (frame.selector + k, o)) (first_or cause.Target os)) (offsets-move (16 * k) w w address u frame.base) ∙ by (first_or cause.Target (offsets w w address u frame.base))
  where
    by : (r : Result ℕ Cause) → map_ok (λ o. (frame.selector + k, o)) r ≡ map_ok (moved_start k) (map_ok (λ o. (frame.selector, o)) r)
    by (Ok o) = refl
    by (Err c) = refl

-- Both the frame and the target move.
start-named : (k w u : ℕ) (a b : Moving) (q p : Option Placed) → a.frame ≡ true → b.address ≡ true
    → if_named (start_in w u) (option_zip (option_map (λ x. x.frame) (option_map (parted_place k a) q)) (option_map (parted_place k b) p))
    ≡ map_ok (moved_start k) (if_named (start_in w u) (option_zip (option_map (λ x. x.frame) q) p))
start-named k w u a b None p e f = refl
start-named k w u a b (Some q) None e f = refl
start-named k w u a b (Some q) (Some p) e f =
    ap₂ (λ x y. start_in w u (cond x (moved_frame k q.frame) q.frame) (cond y (p.address + 16 * k) p.address)) e f ∙ start-frame k w u q.frame p.address

listed : (k : ℕ) (r : Result (ℕ × ℕ) Cause) → option_to_list (result_ok (map_ok (moved_start k) r)) ≡ map (moved_start k) (option_to_list (result_ok r))
listed k (Ok s) = refl
listed k (Err c) = refl

same-start-cause : (k : ℕ) (r : Result (ℕ × ℕ) Cause) → result_err (map_ok (moved_start k) r) ≡ result_err r
same-start-cause k (Ok s) = refl
same-start-cause k (Err c) = refl

abbrev starts : Places → List Piece → List (ℕ × ℕ)
starts pl ps = flat_map (piece_start pl) ps

module _ (k : ℕ) (mv : Movers) (pl : Places) (h : AreMoversOf mv pl) where
  start-at : (kind : ℕ) (r : PlainReference) → StartMoves mv (Some r) → start_outcome (moved k mv pl) kind r ≡ map_ok (moved_start k) (start_outcome pl kind r)
  start-at kind r m =
      let source = framed 0 r.target r.frame in
      let w = width_bits kind in
      ap₂ (λ q p. if_named (start_in w r.displacement) (option_zip (option_map (λ x. x.frame) q) p)) (place_moves k mv pl h source) (place_moves k mv pl h r.target)
      ∙ start-named k w r.displacement (moving_of mv source) (moving_of mv r.target) (place_of pl source) (place_of pl r.target) m.0 m.1

  start-in : (p : Piece) → PieceStarts mv p → piece_start (moved k mv pl) p ≡ map (moved_start k) (piece_start pl p)
  start-in (Kept r) m = refl
  start-in (Fixed kind fixups) m = refl
  start-in (End kind byte None) m = refl
  start-in (End kind byte (Some r)) m = ap (λ o. option_to_list (result_ok o)) (start-at kind r m) ∙ listed k (start_outcome pl kind r)

  starts-in : (ps : List Piece) → AllStart mv ps → starts (moved k mv pl) ps ≡ map (moved_start k) (starts pl ps)
  starts-in [] m = refl
  starts-in (p ∷ ps) m = ap₂ (λ xs ys. xs ++ ys) (start-in p m.0) (starts-in ps m.1) ∙ sym (map-append (moved_start k) (piece_start pl p) (starts pl ps))

  -- ---- a placement that reaches

  same-cause : (a : Option ℕ) (r : Result (List Addition) Cause) → result_err (map_ok (more k a) r) ≡ result_err r
  same-cause a (Ok parts) = refl
  same-cause a (Err c) = refl

  abbrev Together : DataItem → ℕ × PlainFixup → Type 0
  Together d f = moves_together mv d.segment.item f ≡ true

  causes-of : (d : DataItem) (fixups : List (ℕ × PlainFixup)) → AreTogether mv d fixups → map (λ f. result_err (outcome (moved k mv pl) d f)) fixups ≡ map (λ f. result_err (outcome pl d f)) fixups
  causes-of d [] all = refl
  causes-of d (f ∷ fs) all =
      ap₂ (λ c cs. c ∷ cs) (ap result_err (outcomes k mv pl d.segment.item d.offset.item f h (All-head (Together d) f fs all)) ∙ same-cause (selector_moving mv d.segment.item f) (outcome pl d f))
      (causes-of d fs (All-tail (Together d) f fs all))

  contents-causes : (c : Contents) (after : List Piece) → ContentsMove mv pl c after → causes_at (moved k mv pl) (data_contents c) after ≡ causes_at pl (data_contents c) after
  contents-causes (Plain d) after m = causes-of d (fixups_of_data after) m.together
  contents-causes (Iterated d) after m = causes-of d (fixups_of_data after) m.1
  contents-causes _ after m = refl

  piece-cause : (p : Piece) (after : List Piece) → PieceMoves mv pl p after → PieceStarts mv p → piece_causes (moved k mv pl) p after ≡ piece_causes pl p after
  piece-cause (Kept r) after m s = contents-causes r.contents after m
  piece-cause (Fixed kind fixups) after m s = refl
  piece-cause (End kind byte None) after m s = refl
  piece-cause (End kind byte (Some r)) after m s = ap (λ c. c ∷ []) (ap result_err (start-at kind r s) ∙ same-start-cause k (start_outcome pl kind r))

  all-causes : (ps : List Piece) → PiecesMove mv pl ps → AllStart mv ps → causes (moved k mv pl) ps ≡ causes pl ps
  all-causes [] m s = refl
  all-causes (p ∷ ps) m s = ap₂ (λ xs ys. xs ++ ys) (piece-cause p ps m.0 s.0) (all-causes ps m.1 s.1)

length-moving : {A : Type 0} (f : A → A) (bs : List Bool) (xs : List A) → length (where_moving f bs xs) ≡ length xs
length-moving f [] xs = refl
length-moving f (b ∷ bs) [] = refl
length-moving f (b ∷ bs) (x ∷ xs) = ap suc (length-moving f bs xs)

length-parted : (k : ℕ) (bs : List Moving) (xs : List Placed) → length (where_parted k bs xs) ≡ length xs
length-parted k [] xs = refl
length-parted k (b ∷ bs) [] = refl
length-parted k (b ∷ bs) (x ∷ xs) = ap suc (length-parted k bs xs)

-- An entry that does not move is where it was.
stays-at : {A : Type 0} (f : A → A) (bs : List Bool) (xs : List A) (i : ℕ) (x : A) → unwrap_or (slice_get bs i) false ≡ false → slice_get xs i ≡ Some x → slice_get (where_moving f bs xs) i ≡ Some x
stays-at f [] xs i x e h = h
stays-at f (b ∷ bs) [] i x e h = h
stays-at f (b ∷ bs) (y ∷ xs) zero x e h = ap (λ b. Some (cond b (f y) y)) e ∙ h
stays-at f (b ∷ bs) (y ∷ xs) (suc i) x e h = stays-at f bs xs i x e h

stays-by : {A : Type 0} (f : A → A) (c : Bool) (bs : List Bool) (xs : List A) (i : ℕ) (x : A) → unwrap_or (cond c (slice_get bs i) None) false ≡ false → cond c (slice_get xs i) None ≡ Some x
    → cond c (slice_get (where_moving f bs xs) i) None ≡ Some x
stays-by f true bs xs i x e h = stays-at f bs xs i x e h
stays-by f false bs xs i x e h = h

pub start-moves : StartsMove
start-moves k m h s = ap last (starts-in k m.movers m.places h.movers (pieces m.records) s) ∙ last-map (moved_start k) None (starts m.places (pieces m.records))

pub placements-reach : PlacementsReach
placements-reach k m h s stay reached =
    let pl = m.places in
    let mv = m.movers in
    let r = (reach-decided pl m.records).decided.0 reached in
    (reach-decided (moved k mv pl) m.records).decided.1 (record {
      fits = record {
        segment_count = length-moving (moved_place k) mv.segments pl.segments ∙ r.fits.segment_count;
        group_count = length-moving (moved_frame k) mv.groups pl.groups ∙ r.fits.group_count;
        external_count = length-parted k mv.externals pl.externals ∙ r.fits.external_count;
        absolute = λ i number offset info e f. stays-by (moved_place k) (nat_le 1 i) mv.segments pl.segments (i - 1) (absolute_place number offset) (stay i number offset info e f) (r.fits.absolute i number offset info e f);
      };
      each = All-same (λ c. c ≡ None) (causes (moved k mv pl) (pieces m.records)) (causes pl (pieces m.records)) (all-causes k mv pl h.movers (pieces m.records) h.pieces s) r.each;
    })
