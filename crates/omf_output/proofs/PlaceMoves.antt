-- The entries of a moved placement.
use Rattle.std.proofs.Common.{◌≡◌, ℕ, zero, suc, ◌+◌, ◌*◌, ◌-◌, List, [], ◌∷◌, length, Bool, true, false, cond, refl, ◌∙◌, ap, arith}
use Rattle.std.specs.Prelude.{Option, Some, None, option_map, unwrap_or, slice_get, nat_le}
use Rattle.omf_check.specs.Tables.{entry}
use Rattle.omf_check.specs.declared.method.TargetMethod.{TargetMethod}
use Rattle.omf_records.specs.declared.method.Kind.{Kind}
use Rattle.omf_records.specs.declared.method.Kind.TheVariants as kinds
use Rattle.omf_placement.specs.declared.frame.Frame.{Frame}
use Rattle.omf_placement.specs.declared.frame.Placed.{Placed}
use Rattle.omf_placement.specs.Placement.{Places, place_in, place_of, group_place}
use Rattle.omf_output.specs.declared.exe.movers.Moving.{Moving}
use Rattle.omf_output.specs.Exe.Moved.{Movers, AreMoversOf, moved, moved_frame, moved_place, parted_place, where_moving, where_parted, both, moving_at, moving_in, moving_of, moves}
use Rattle.omf_output.specs.Exe.Memory.{segment_address}

module _ {A : Type 0} (f : A → A) where
  at : (bs : List Bool) (xs : List A) (i : ℕ) → length bs ≡ length xs
      → slice_get (where_moving f bs xs) i ≡ option_map (λ x. cond (unwrap_or (slice_get bs i) false) (f x) x) (slice_get xs i)
  at [] [] i e = refl
  at [] (x ∷ xs) i e = absurd (omega arith)
  at (b ∷ bs) [] i e = absurd (omega arith)
  at (b ∷ bs) (x ∷ xs) zero e = refl
  at (b ∷ bs) (x ∷ xs) (suc i) e = at bs xs i (omega arith)

  by_index : (b : Bool) (bs : List Bool) (xs : List A) (i : ℕ) → length bs ≡ length xs
      → cond b (slice_get (where_moving f bs xs) i) None ≡ option_map (λ x. cond (unwrap_or (cond b (slice_get bs i) None) false) (f x) x) (cond b (slice_get xs i) None)
  by_index true bs xs i e = at bs xs i e
  by_index false bs xs i e = refl

  pub entry_moves : (bs : List Bool) (xs : List A) (i : ℕ) → length bs ≡ length xs
      → entry (where_moving f bs xs) i ≡ option_map (λ x. cond (moves bs i) (f x) x) (entry xs i)
  entry_moves bs xs i e = by_index (nat_le 1 i) bs xs (i - 1) e

parted-at : (k : ℕ) (bs : List Moving) (xs : List Placed) (i : ℕ) → length bs ≡ length xs
    → slice_get (where_parted k bs xs) i ≡ option_map (parted_place k (unwrap_or (slice_get bs i) (both false))) (slice_get xs i)
parted-at k [] [] i e = refl
parted-at k [] (x ∷ xs) i e = absurd (omega arith)
parted-at k (b ∷ bs) [] i e = absurd (omega arith)
parted-at k (b ∷ bs) (x ∷ xs) zero e = refl
parted-at k (b ∷ bs) (x ∷ xs) (suc i) e = parted-at k bs xs i (omega arith)

parted_by : (k : ℕ) (b : Bool) (bs : List Moving) (xs : List Placed) (i : ℕ) → length bs ≡ length xs
    → cond b (slice_get (where_parted k bs xs) i) None ≡ option_map (parted_place k (unwrap_or (cond b (slice_get bs i) None) (both false))) (cond b (slice_get xs i) None)
parted_by k true bs xs i e = parted-at k bs xs i e
parted_by k false bs xs i e = refl

external-moves : (k : ℕ) (bs : List Moving) (xs : List Placed) (i : ℕ) → length bs ≡ length xs → entry (where_parted k bs xs) i ≡ option_map (parted_place k (moving_at bs i)) (entry xs i)
external-moves k bs xs i e = parted_by k (nat_le 1 i) bs xs (i - 1) e

-- Where there is no entry there is no flag.
none-at : {A B : Type 0} (bs : List A) (xs : List B) (i : ℕ) → length bs ≡ length xs → slice_get xs i ≡ None → slice_get bs i ≡ None
none-at [] [] i e h = refl
none-at [] (x ∷ xs) i e h = absurd (omega arith)
none-at (b ∷ bs) [] i e h = absurd (omega arith)
none-at (b ∷ bs) (x ∷ xs) zero e h = absurd cc
none-at (b ∷ bs) (x ∷ xs) (suc i) e h = none-at bs xs i (omega arith) h

none-by : {A B : Type 0} (c : Bool) (bs : List A) (xs : List B) (i : ℕ) → length bs ≡ length xs → cond c (slice_get xs i) None ≡ None → cond c (slice_get bs i) None ≡ None
none-by true bs xs i e h = none-at bs xs i e h
none-by false bs xs i e h = refl

pub segment-both : (k : ℕ) (b : Bool) (o : Option Placed) → option_map (λ p. cond b (moved_place k p) p) o ≡ option_map (parted_place k (both b)) o
segment-both k true None = refl
segment-both k false None = refl
segment-both k true (Some p) = refl
segment-both k false (Some p) = refl

group-both : (k : ℕ) (b : Bool) (o : Option Frame) → option_map group_place (option_map (λ g. cond b (moved_frame k g) g) o) ≡ option_map (parted_place k (both b)) (option_map group_place o)
group-both k true None = refl
group-both k false None = refl
group-both k true (Some g) = refl
group-both k false (Some g) = refl

module _ (k : ℕ) (mv : Movers) (pl : Places) (h : AreMoversOf mv pl) where
  pub segment_moves : (i : ℕ) → entry (moved k mv pl).segments i ≡ option_map (λ p. cond (moves mv.segments i) (moved_place k p) p) (entry pl.segments i)
  segment_moves i = entry_moves (moved_place k) mv.segments pl.segments i h.segments

  place-in-moves : (t : Kind) (i : ℕ) → place_in (moved k mv pl) t i ≡ option_map (parted_place k (moving_in mv t i)) (place_in pl t i)
  place-in-moves kinds.Segment i = segment_moves i ∙ segment-both k (moves mv.segments i) (entry pl.segments i)
  place-in-moves kinds.Group i = ap (option_map group_place) (entry_moves (moved_frame k) mv.groups pl.groups i h.groups) ∙ group-both k (moves mv.groups i) (entry pl.groups i)
  place-in-moves kinds.External i = external-moves k mv.externals pl.externals i h.externals

  pub place_moves : (t : TargetMethod) → place_of (moved k mv pl) t ≡ option_map (parted_place k (moving_of mv t)) (place_of pl t)
  place_moves t = place-in-moves t.kind t.index

  -- The address of a segment that moves.
  address-of : (b : Bool) (o : Option Placed) → b ≡ true → (o ≡ None → b ≡ false)
      → unwrap_or (option_map (λ p. p.address) (option_map (λ p. cond b (moved_place k p) p) o)) 0 ≡ unwrap_or (option_map (λ p. p.address) o) 0 + 16 * k
  address-of true (Some p) e none = refl
  address-of true None e none = absurd (let no = none refl in cc)
  address-of false o e none = absurd cc

  pub segment_address_moves : (i : ℕ) → moves mv.segments i ≡ true → segment_address (moved k mv pl) i ≡ segment_address pl i + 16 * k
  segment_address_moves i e =
      ap (λ o. unwrap_or (option_map (λ p. p.address) o) 0) (segment_moves i)
      ∙ address-of (moves mv.segments i) (entry pl.segments i) e (λ none. ap (λ o. unwrap_or o false) (none-by (nat_le 1 i) mv.segments pl.segments (i - 1) h.segments none))
