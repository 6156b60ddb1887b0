-- Modules of equal skeletons get the same answer from reach, except for the place of a reference that is out of range.
use Rattle.std.proofs.Common.{◌≡◌, ℕ, ◌≤◌, List, [], ◌∷◌, ◌++◌, refl, sym, ◌∙◌, ap, ap₂, Bool, true, false, cond, length, arith, length-append}
use Rattle.std.specs.Prelude.{map, flat_map, filter_map, zip, slice_get, option_map, Option, Some, None, ◌==◌}
use Rattle.std.proofs.lemmas.List.{length-map, map-append}
use Rattle.std.proofs.lemmas.Option.{slice_get-map}
use Rattle.omf_frame.specs.Bytes.{with_before}
use Rattle.omf_records.specs.Values.{Rec, Contents, Segment, Group, Externs, Communals, Subrecord}
use Rattle.omf_check.specs.Tables.{segments, groups, externals, subrecords, defined_segments, defined_groups, defined_externals}
use Rattle.omf_check.specs.declared.segment.SegInfo.{SegInfo}
use Rattle.omf_reloc.specs.Inner.Names.{extra, missing, far_fault, reach_faults, all_kinds, given}
use Rattle.omf_reloc.specs.declared.fault.Cause.{Cause}
use Rattle.omf_reloc.specs.declared.fault.ReachFault.{ReachFault}
use Rattle.omf_reloc.specs.declared.fault.ReachFault.TheVariants as fault
use Rattle.omf_reloc.specs.declared.fault.Kind.{Kind}
use Rattle.omf_reloc.specs.declared.fault.Kind.TheVariants as kinds
use Rattle.std.specs.List.{enumerate_from}
use Rattle.omf_reloc.specs.Plain.{Piece, Kept, Fixed, End, PlainFixup, pieces}
use Rattle.omf_placement.specs.Placement.{Places}
use Rattle.omf_reloc.specs.Reach.{entries, misplaced, causes, all_reference_places, misfits, far_faults}
use Rattle.omf_canon.specs.Inner.Names.{reach_answer}
use Rattle.omf_canon.specs.Laws.{placeless}
use Rattle.omf_canon.specs.Skeleton.{normal, skeleton, skeleton_of, join_front}
use Rattle.omf_canon.proofs.NormalLaws.{normal_of, normal_at, normal-pieces}
use Rattle.omf_canon.proofs.SkeletonLaws.{cause-skeleton}

-- Tables as they are seen in the pieces.
from-pieces : {A : Type 0} (f : Rec → List A) (g : Piece → List A) → ((earlier : List Subrecord) (r : Rec) → f r ≡ g (normal_of earlier r.kind r.contents))
    → (before m : List Rec) → flat_map f m ≡ flat_map g (with_before normal_at before m)
from-pieces f g same before [] = refl
from-pieces f g same before (r ∷ m) = ap₂ (λ x y. x ++ y) (same (subrecords before) r) (from-pieces f g same (before ++ r ∷ []) m)

from-module : {A : Type 0} (f : Rec → List A) (g : Piece → List A) → ((earlier : List Subrecord) (r : Rec) → f r ≡ g (normal_of earlier r.kind r.contents)) → (m : List Rec) → flat_map f m ≡ flat_map g (map normal (pieces m))
from-module f g same m = from-pieces f g same [] m ∙ sym (ap (flat_map g) (normal-pieces m))

-- A table that FIXUPPs have no part in is that of the skeleton.
module _ {A : Type 0} (g : Piece → List A) (none : (kind : ℕ) (fs : List PlainFixup) → g (Fixed kind fs) ≡ []) where
  drop-fixed : (kind : ℕ) (fs : List PlainFixup) (ps : List Piece) → flat_map g (Fixed kind fs ∷ ps) ≡ flat_map g ps
  drop-fixed kind fs ps = ap (λ x. x ++ flat_map g ps) (none kind fs)

  table_two : (b : Bool) (kind other : ℕ) (fs gs : List PlainFixup) (ps : List Piece)
      → flat_map g (cond b (Fixed kind (fs ++ gs) ∷ ps) (Fixed kind fs ∷ Fixed other gs ∷ ps)) ≡ flat_map g ps
  table_two true kind other fs gs ps = drop-fixed kind (fs ++ gs) ps
  table_two false kind other fs gs ps = drop-fixed kind fs (Fixed other gs ∷ ps) ∙ drop-fixed other gs ps

  table-join_front : (kind : ℕ) (fs : List PlainFixup) (ps : List Piece) → flat_map g (join_front (Fixed kind fs) ps) ≡ flat_map g ps
  table-join_front kind fs [] = drop-fixed kind fs []
  table-join_front kind fs (Kept r ∷ ps) = drop-fixed kind fs (Kept r ∷ ps)
  table-join_front kind fs (End other byte s ∷ ps) = drop-fixed kind fs (End other byte s ∷ ps)
  table-join_front kind fs (Fixed other gs ∷ ps) = table_two (kind == other) kind other fs gs ps ∙ sym (drop-fixed other gs ps)

  table-skeleton : (ps : List Piece) → flat_map g (skeleton_of ps) ≡ flat_map g ps
  table-skeleton [] = refl
  table-skeleton (Kept r ∷ ps) = ap (λ t. g (Kept r) ++ t) (table-skeleton ps)
  table-skeleton (Fixed kind [] ∷ ps) = table-skeleton ps ∙ sym (drop-fixed kind [] ps)
  table-skeleton (Fixed kind (f ∷ fs) ∷ ps) = table-join_front kind (f ∷ fs) (skeleton_of ps) ∙ table-skeleton ps ∙ sym (drop-fixed kind (f ∷ fs) ps)
  table-skeleton (End kind byte s ∷ ps) = ap (λ t. g (End kind byte s) ++ t) (table-skeleton ps)

  -- So it is the same for modules of equal skeletons.
  same-table : (f : Rec → List A) → ((earlier : List Subrecord) (r : Rec) → f r ≡ g (normal_of earlier r.kind r.contents)) → (m n : List Rec) → skeleton m ≡ skeleton n → flat_map f m ≡ flat_map f n
  same-table f same m n h = from-module f g same m ∙ sym (table-skeleton (map normal (pieces m))) ∙ ap (flat_map g) h ∙ table-skeleton (map normal (pieces n)) ∙ sym (from-module f g same n)

abbrev piece_segments : Piece → List SegInfo
piece_segments (Kept r) = defined_segments r.kind r.contents
piece_segments _ = []

segments-piece : (earlier : List Subrecord) (kind : ℕ) (c : Contents) → defined_segments kind c ≡ piece_segments (normal_of earlier kind c)
segments-piece earlier kind (Segment s) = refl
segments-piece earlier kind _ = refl

same-segments : (m n : List Rec) → skeleton m ≡ skeleton n → segments m ≡ segments n
same-segments m n h = same-table piece_segments (λ kind fs. refl) (λ r. defined_segments r.kind r.contents) (λ earlier r. segments-piece earlier r.kind r.contents) m n h

-- Of the other tables the number of entries counts: a mark for each.
abbrev marks : {A : Type 0} → List A → List ℕ
marks xs = map (λ x. 0) xs

length-marks : {A : Type 0} (f : Rec → List A) (m : List Rec) → length (flat_map f m) ≡ length (flat_map (λ r. marks (f r)) m)
length-marks f [] = refl
length-marks f (r ∷ m) = omega (arith, length-append (f r) (flat_map f m), length-append (marks (f r)) (flat_map (λ s. marks (f s)) m), length-map {B = ℕ} (f r) (λ x. 0), length-marks f m)

map-map : {A B C : Type 0} (f : B → C) (g : A → B) (xs : List A) → map f (map g xs) ≡ map (λ x. f (g x)) xs
map-map f g [] = refl
map-map f g (x ∷ xs) = ap (λ t. f (g x) ∷ t) (map-map f g xs)

abbrev piece_groups : Piece → List ℕ
piece_groups (Kept r) = marks (defined_groups r.contents)
piece_groups _ = []

groups-piece : (earlier : List Subrecord) (kind : ℕ) (c : Contents) → marks (defined_groups c) ≡ piece_groups (normal_of earlier kind c)
groups-piece earlier kind (Group g) = refl
groups-piece earlier kind _ = refl

abbrev piece_externals : Piece → List ℕ
piece_externals (Kept r) = marks (defined_externals r.contents)
piece_externals _ = []

externals-piece : (earlier : List Subrecord) (kind : ℕ) (c : Contents) → marks (defined_externals c) ≡ piece_externals (normal_of earlier kind c)
externals-piece earlier kind (Externs items) = map-map (λ x. 0) (λ e. e.item.name) items ∙ sym (ap (map (λ x. 0)) (map-map (λ e. e.item.name) _ items) ∙ map-map (λ x. 0) _ items)
externals-piece earlier kind (Communals items) = map-map (λ x. 0) (λ e. e.item.name) items ∙ sym (ap (map (λ x. 0)) (map-map (λ e. e.item.name) _ items) ∙ map-map (λ x. 0) _ items)
externals-piece earlier kind _ = refl

same-groups : (m n : List Rec) → skeleton m ≡ skeleton n → length (groups m) ≡ length (groups n)
same-groups m n h = length-marks (λ r. defined_groups r.contents) m
    ∙ ap length (same-table piece_groups (λ kind fs. refl) (λ r. marks (defined_groups r.contents)) (λ earlier r. groups-piece earlier r.kind r.contents) m n h)
    ∙ sym (length-marks (λ r. defined_groups r.contents) n)

same-externals : (m n : List Rec) → skeleton m ≡ skeleton n → length (externals m) ≡ length (externals n)
same-externals m n h = length-marks (λ r. defined_externals r.contents) m
    ∙ ap length (same-table piece_externals (λ kind fs. refl) (λ r. marks (defined_externals r.contents)) (λ earlier r. externals-piece earlier r.kind r.contents) m n h)
    ∙ sym (length-marks (λ r. defined_externals r.contents) n)

-- Each reference that is judged has a place to be named by.
abbrev HavePlaces : Type 0
HavePlaces = (pl : Places) (m : List Rec) → length (causes pl (pieces m)) ≤ length (all_reference_places m)

-- So the references that do not reach are told by the causes, but for their places.
abbrev far : Option Cause → Option ReachFault
far c = option_map (λ x. fault.TooFar 0 0 x) c

far-placeless : (ps : List (ℕ × ℕ)) (cs : List (Option Cause)) → length cs ≤ length ps → map placeless (filter_map far_fault (zip ps cs)) ≡ filter_map far cs
far-placeless [] [] h = refl
far-placeless [] (c ∷ cs) h = absurd (omega (arith, h))
far-placeless (p ∷ ps) [] h = refl
far-placeless (p ∷ ps) (None ∷ cs) h = far-placeless ps cs (omega (arith, h))
far-placeless (p ∷ ps) (Some c ∷ cs) h = ap (λ t. fault.TooFar 0 0 c ∷ t) (far-placeless ps cs (omega (arith, h)))

placeless-far : HavePlaces → (pl : Places) (m : List Rec) → map placeless (far_faults pl m) ≡ filter_map far (causes pl (pieces m))
placeless-far have pl m = far-placeless (all_reference_places m) (causes pl (pieces m)) (have pl m)

same-far : HavePlaces → (pl : Places) (m n : List Rec) → skeleton m ≡ skeleton n → map placeless (far_faults pl m) ≡ map placeless (far_faults pl n)
same-far have pl m n h = placeless-far have pl m ∙ ap (filter_map far) (cause-skeleton pl m n h) ∙ sym (placeless-far have pl n)

same-entries : (m n : List Rec) → skeleton m ≡ skeleton n → (k : Kind) → entries m k ≡ entries n k
same-entries m n h kinds.Segment = ap length (same-segments m n h)
same-entries m n h kinds.Group = same-groups m n h
same-entries m n h kinds.External = same-externals m n h

by-kind : (f g : Kind → List ReachFault) → ((k : Kind) → f k ≡ g k) → (ks : List Kind) → flat_map f ks ≡ flat_map g ks
by-kind f g same [] = refl
by-kind f g same (k ∷ ks) = ap₂ (λ x y. x ++ y) (same k) (by-kind f g same ks)

same-misfits : (pl : Places) (m n : List Rec) → skeleton m ≡ skeleton n → misfits pl m ≡ misfits pl n
same-misfits pl m n h = ap₂ (λ x y. x ++ y)
    (ap₂ (λ x y. x ++ y)
    (by-kind (λ k. missing k (entries m k) (given pl k)) (λ k. missing k (entries n k) (given pl k)) (λ k. ap (λ e. missing k e (given pl k)) (same-entries m n h k)) all_kinds)
    (by-kind (λ k. extra k (entries m k) (given pl k)) (λ k. extra k (entries n k) (given pl k)) (λ k. ap (λ e. extra k e (given pl k)) (same-entries m n h k)) all_kinds))
    (ap (λ s. flat_map (λ x. misplaced pl x.0 x.1.absolute) (enumerate_from 1 s)) (same-segments m n h))

answer-list : (pl : Places) (m : List Rec) → reach_answer pl m ≡ slice_get (map placeless (misfits pl m) ++ map placeless (far_faults pl m)) 0
answer-list pl m = sym (slice_get-map placeless (reach_faults pl m) 0) ∙ ap (λ l. slice_get l 0) (map-append placeless (misfits pl m) (far_faults pl m))

-- Equal skeletons give equal answers of reach.
pub reach-skeleton : HavePlaces → (pl : Places) (m n : List Rec) → skeleton m ≡ skeleton n → reach_answer pl m ≡ reach_answer pl n
reach-skeleton have pl m n h = answer-list pl m ∙ ap₂ (λ x y. slice_get (map placeless x ++ y) 0) (same-misfits pl m n h) (same-far have pl m n h) ∙ sym (answer-list pl n)
