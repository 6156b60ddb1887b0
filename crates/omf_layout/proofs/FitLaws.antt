-- A layout has an entry for each segment, group and external of its module.
use Rattle.std.proofs.Common.{◌≡◌, ℕ, zero, suc, ◌+◌, List, [], ◌∷◌, ◌++◌, length, refl, sym, ap, ◌∙◌, arith}
use Rattle.std.specs.Prelude.{Option, Some, None, option_map, slice_get}
use Rattle.std.specs.List.{range_with_len, zip}
use Rattle.std.proofs.lemmas.List.{length-map}
use Rattle.std.proofs.lemmas.Option.{none-some, same_Some, option_and_then_some}
use Rattle.omf_records.specs.Values.{Rec}
use Rattle.omf_check.specs.Tables.{segments, groups, externals, entry}
use Rattle.omf_check.specs.declared.segment.SegInfo.{SegInfo}
use Rattle.omf_placement.specs.declared.frame.Placed.{Placed}
use Rattle.omf_placement.specs.Placement.{absolute_place}
use Rattle.omf_layout.specs.declared.alignment.Alignment.{Alignment}
use Rattle.omf_layout.specs.declared.options.Frames.{Frames}
use Rattle.omf_layout.specs.declared.options.Options.{Options}
use Rattle.omf_layout.specs.Layout.{Laid, all_laid, segment_at, segment_laid, segments_laid, group_frame, group_frames, external_laid, externals_laid, spare, after_communals, LaidOut, laid_out, layout_of}
use Rattle.omf_layout.specs.Laws.{LayoutsKeepAlignments}
use Rattle.omf_layout.specs.Wants.{bytes_aligned, alignments, rooms}
use Rattle.omf_layout.proofs.TableLaws.{length-alignments, length-rooms}
use Rattle.omf_placement.proofs.ListLaws.{entry-at}

pub map_some : {A B P : Type 0} (f : A → B) (o : Option A) (y : B) → option_map f o ≡ Some y → ((x : A) → o ≡ Some x → f x ≡ y → P) → P
map_some f None y h k = absurd (none-some y h)
map_some f (Some x) y h k = k x refl (same_Some (f x) y h)

-- The parts of a layout.
pub record IsMadeOf (o : Options) (m : List Rec) (l : LaidOut) : Type 0 where
  pub laid_segments : Laid (List Placed)
  pub segments_are : segments_laid o m ≡ Some laid_segments
  pub after : ℕ
  pub after_is : after_communals o laid_segments.free (rooms m) ≡ Some after
  pub laid_externals : Laid (List Placed)
  pub externals_are : all_laid (external_laid o (spare o after)) laid_segments.free (rooms m) ≡ Some laid_externals
  pub whole : laid_out o m laid_segments.what laid_externals ≡ l

pub made-of : (o : Options) (m : List Rec) (l : LaidOut) → layout_of o m ≡ Some l → IsMadeOf o m l
made-of o m l h = option_and_then_some _ (segments_laid o m) l h (λ s e g.
    map_some (laid_out o m s.what) (externals_laid o s.free (rooms m)) l g (λ x e2 g2.
    option_and_then_some _ (after_communals o s.free (rooms m)) x e2 (λ b e3 g3.
    record { laid_segments = s; segments_are = e; after = b; after_is = e3; laid_externals = x; externals_are = g3; whole = g2 })))

module _ {A B : Type 0} (lay : ℕ → A → Option (Laid B)) where
  -- The first and the rest of what is laid.
  pub record IsFirst (free : ℕ) (x : A) (xs : List A) (l : Laid (List B)) : Type 0 where
    pub one : Laid B
    pub one_is : lay free x ≡ Some one
    pub rest : Laid (List B)
    pub rest_is : all_laid lay one.free xs ≡ Some rest
    pub what : one.what ∷ rest.what ≡ l.what
    pub end : rest.free ≡ l.free

  pub first-of : (free : ℕ) (x : A) (xs : List A) (l : Laid (List B)) → all_laid lay free (x ∷ xs) ≡ Some l → IsFirst free x xs l
  first-of free x xs l h = option_and_then_some _ (lay free x) l h (λ one e g.
      map_some (λ (k : Laid (List B)). record { what = (one.what ∷ []) ++ k.what; free = k.free }) (all_laid lay one.free xs) l g (λ rest e2 g2.
      record { one = one; one_is = e; rest = rest; rest_is = e2; what = ap (λ k. k.what) g2; end = ap (λ k. k.free) g2 }))

  pub length-laid : (free : ℕ) (xs : List A) (l : Laid (List B)) → all_laid lay free xs ≡ Some l → length l.what ≡ length xs
  length-laid free [] l h = ap length (sym (ap (λ k. k.what) (same_Some _ l h)))
  length-laid free (x ∷ xs) l h = let f = first-of free x xs l h in sym (ap length f.what) ∙ ap suc (length-laid f.one.free xs f.rest f.rest_is)

length-zip : {A B : Type 0} (xs : List A) (ys : List B) → length ys ≡ length xs → length (zip xs ys) ≡ length xs
length-zip [] ys h = refl
length-zip (x ∷ xs) [] h = absurd (omega arith)
length-zip (x ∷ xs) (y ∷ ys) h = ap suc (length-zip xs ys (omega arith))

length-range : (k n : ℕ) → length (range_with_len k n) ≡ n
length-range k zero = refl
length-range k (suc n) = ap suc (length-range (k + 1) n)

-- Absolute segments are where their SEGDEFs put them.
absolute-laid : (frames : Frames) (free : ℕ) (ss : List SegInfo) (xs : List Alignment) (l : Laid (List Placed)) → length xs ≡ length ss → all_laid (segment_laid frames) free (zip ss xs) ≡ Some l
    → (j number offset : ℕ) (s : SegInfo) → slice_get ss j ≡ Some s → s.absolute ≡ Some (number, offset) → slice_get l.what j ≡ Some (absolute_place number offset)
absolute-laid frames free [] xs l n h j number offset s e a = absurd (none-some s e)
absolute-laid frames free (t ∷ ss) [] l n h j number offset s e a = absurd (omega arith)
absolute-laid frames free (t ∷ ss) (x ∷ xs) l n h zero number offset s e a =
    let f = first-of (segment_laid frames) free (t, x) (zip ss xs) l h in
    let told : t.absolute ≡ Some (number, offset) = ap (λ y. y.absolute) (same_Some t s e) ∙ a in
    let one : record { what = absolute_place number offset; free = free } ≡ f.one = same_Some _ f.one (sym (ap (segment_at frames (bytes_aligned x) free t.length) told) ∙ f.one_is) in
    ap (λ xs. slice_get xs 0) (sym f.what) ∙ ap (λ k. Some k.what) (sym one)
absolute-laid frames free (t ∷ ss) (x ∷ xs) l n h (suc j) number offset s e a =
    let f = first-of (segment_laid frames) free (t, x) (zip ss xs) l h in
    ap (λ xs. slice_get xs (suc j)) (sym f.what) ∙ absolute-laid frames f.one.free ss xs f.rest (omega arith) f.rest_is j number offset s e a

module _ (o : Options) (m : List Rec) (l : LaidOut) (h : layout_of o m ≡ Some l) where
  pub parts : IsMadeOf o m l
  parts = made-of o m l h

  as-many : length (alignments m) ≡ length (segments m)
  as-many = length-alignments m

  pub segments-given : parts.laid_segments.what ≡ l.places.segments
  segments-given = ap (λ k. k.places.segments) parts.whole

  pub segment-count : length l.places.segments ≡ length (segments m)
  segment-count = ap length (sym segments-given) ∙ length-laid (segment_laid o.frames) o.base (zip (segments m) (alignments m)) parts.laid_segments parts.segments_are ∙ length-zip (segments m) (alignments m) as-many

  pub groups-given : group_frames o.frames m l.places.segments ≡ l.places.groups
  groups-given = ap (group_frames o.frames m) (sym segments-given) ∙ ap (λ k. k.places.groups) parts.whole

  pub group-count : length l.places.groups ≡ length (groups m)
  group-count = ap length (sym groups-given) ∙ length-map (range_with_len 1 (length (groups m))) (group_frame o.frames m l.places.segments) ∙ length-range 1 (length (groups m))

  pub external-count : length l.places.externals ≡ length (externals m)
  external-count = ap (λ k. length k.places.externals) (sym parts.whole)
      ∙ length-laid (external_laid o (spare o parts.after)) parts.laid_segments.free (rooms m) parts.laid_externals parts.externals_are ∙ length-rooms m

  pub alignment-count : length l.alignments ≡ length (segments m)
  alignment-count = ap (λ k. length k.alignments) (sym parts.whole) ∙ as-many

  pub room-count : length l.rooms ≡ length (externals m)
  room-count = ap (λ k. length k.rooms) (sym parts.whole) ∙ length-rooms m

  pub absolute-at : (i number offset : ℕ) (s : SegInfo) → entry (segments m) i ≡ Some s → s.absolute ≡ Some (number, offset) → entry l.places.segments i ≡ Some (absolute_place number offset)
  absolute-at zero number offset s e a = absurd (none-some s e)
  absolute-at (suc j) number offset s e a =
      let next : suc j ≡ j + 1 = omega arith in
      ap (entry l.places.segments) next ∙ entry-at l.places.segments j ∙ ap (λ xs. slice_get xs j) (sym segments-given)
      ∙ absolute-laid o.frames o.base (segments m) (alignments m) parts.laid_segments as-many parts.segments_are j number offset s (sym (ap (entry (segments m)) next ∙ entry-at (segments m) j) ∙ e) a

pub keep-alignments : LayoutsKeepAlignments
keep-alignments o m l h = sym (ap (λ (k : LaidOut). k.alignments) (parts o m l h).whole)
