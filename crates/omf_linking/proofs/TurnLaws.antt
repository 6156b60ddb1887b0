-- Modules laid in memory one after another.
use Rattle.std.proofs.Common.{◌≡◌, ℕ, ◌+◌, ◌-◌, List, [], ◌∷◌, ◌++◌, length, drop, map, refl, sym, ap, ap₂, subst, ◌∙◌, arith, append-nil, append_assoc}
use Rattle.std.specs.Prelude.{All, IfSome, IsNone, flat_map, filter_map, zip, Option, Some, None, option_map, option_to_list, if◌then◌else◌}
use Rattle.std.specs.List.{AllZip, cons_option, enumerate_from}
use Rattle.std.proofs.lemmas.List.{map-append}
use Rattle.std.proofs.lemmas.List.Elements.{All-nil, All-cons, All-head, All-tail, filter_map-append}
use Rattle.omf_frame.specs.declared.fault.Place.{Place}
use Rattle.omf_image.specs.Overlay.{Laid, AreLaidOver}
use Rattle.omf_image.specs.Painting.{all_zeros, Fits}
use Rattle.omf_image.specs.declared.painting.Extent.{Extent}
use Rattle.omf_placement.specs.Derive.{PlacedModule}
use Rattle.omf_placement.specs.Placement.{Places}
use Rattle.omf_records.specs.Values.{Rec}
use Rattle.omf_reloc.proofs.WalkedLaws.{laid-on}
use Rattle.omf_linking.proofs.RelocatedLaws.{one_relocated, all_relocated}
use Rattle.omf_linking.proofs.SegmentsLaws.{own_bytes}
use Rattle.omf_linking.proofs.SpaceLaws.MemoryLaws.{extents_fit, zeros_lost, is_memory}
use Rattle.omf_linking.specs.Inner.Laying.{extent_in, extents_in, laid_piece, laid_pieces}
use Rattle.omf_linking.specs.Inner.Sweeping.{interval, intervals, spot}
use Rattle.omf_linking.specs.Inner.Turning.{spots, IsBegun, IsTurn, IsTaken, left_segments, own_numbered, left_starts, AreTaken, IsFinished}
use Rattle.omf_linking.specs.Relocated.{IsRelocated}
use Rattle.omf_linking.specs.Segments.{Bytes, ModuleBytes, image_bytes, module_segments, stored_image, stored_images}
use Rattle.omf_linking.specs.Space.Memory.{Share, memory_byte, overlap, piece, pieces, share_of, shares, Lies}
use Rattle.omf_linking.specs.Space.Segments.{SegmentAt, IsWithin, share_in, segment_shares}
use Rattle.omf_linking.specs.Starts.{is_main, numbered_start, one_start}
use Rattle.omf_linking.specs.Together.{AreOne}
use Rattle.omf_linking.specs.declared.relocated.Relocated.{Relocated}
use Rattle.omf_linking.specs.declared.space.stretch.Stretch.{Stretch}
use Rattle.omf_linking.specs.declared.space.sweep.Interval.{Interval}
use Rattle.omf_linking.specs.declared.together.Together.{Together}
use Rattle.omf_linking.specs.declared.turns.Turns.{Turns}

-- ---- intervals as extents

one_spot : (s : Stretch) → spot (interval (piece s)) ≡ extent_in s
one_spot s = let e : s.address + length s.bytes.now - s.address ≡ length s.bytes.now = omega arith in ap (λ (n : ℕ). let x : Extent = record { segment = 0; first = s.address; len = n } in x) e

pub spots_are : (ss : List Stretch) → spots (intervals (pieces ss)) ≡ extents_in ss
spots_are [] = refl
spots_are (s ∷ ss) = ap₂ (λ (e : Extent) (es : List Extent). e ∷ es) (one_spot s) (spots_are ss)

-- records without their places
abbrev pub without_places : List (Place × Rec) → List Rec
without_places xs = map (λ x. x.1) xs

all-both : {A : Type 0} (P : A → Type 0) (xs ys : List A) → All P xs → All P ys → All P (xs ++ ys)
all-both P [] ys h k = k
all-both P (x ∷ xs) ys h k = All-cons P x (xs ++ ys) (All-head P x xs h) (all-both P xs ys (All-tail P x xs h) k)

pub spots_fit : (old new : List Interval) (ss : List Stretch) → new ≡ old ++ intervals (pieces ss) → All Lies ss → All Fits (spots old) → All Fits (spots new)
spots_fit old new ss e lies h =
    let more : All Fits (spots (intervals (pieces ss))) = subst (All Fits) (sym (spots_are ss)) (extents_fit ss lies) in
    subst (λ (is : List Interval). All Fits (spots is)) (sym e) (subst (All Fits) (sym (map-append spot old (intervals (pieces ss)))) (all-both Fits (spots old) (spots (intervals (pieces ss))) h more))

-- ---- one more module

own_image : (m : PlacedModule) (s : Places) (r : Relocated) → IsRelocated m r → ((m.0, s), image_bytes r) ≡ stored_image (m, s)
own_image m s r h = ap (λ (b : Bytes). ((m.0, s), b)) (own_bytes m s r h)

started_by : (j : ℕ) (m : PlacedModule) (r : Relocated) → IsRelocated m r → numbered_start (j, (m.0, r)) ≡ own_numbered (j, m)
started_by j m r h = ap (λ (s : Option (ℕ × ℕ)). option_map (λ (x : ℕ × ℕ). (j, x)) (if is_main m.0 then s else None)) h.starts

cons_list : {A : Type 0} (o : Option A) (xs : List A) → cons_option o xs ≡ option_to_list o ++ xs
cons_list None xs = refl
cons_list (Some x) xs = refl

shares_more : (ss ts : List Stretch) (a : ℕ) → shares (pieces (ss ++ ts)) a ≡ shares (pieces ss) a ++ shares (pieces ts) a
shares_more ss ts a = ap (λ ps. shares ps a) (map-append piece ss ts) ∙ filter_map-append (share_of a) (pieces ss) (pieces ts)

pub intervals_more : (ss ts : List Stretch) → intervals (pieces (ss ++ ts)) ≡ intervals (pieces ss) ++ intervals (pieces ts)
intervals_more ss ts = ap intervals (map-append piece ss ts) ∙ map-append interval (pieces ss) (pieces ts)

module _ (ms : List PlacedModule) (at : List Places) (is : List Interval) (j : ℕ) (m : PlacedModule) (s : Places) (next : drop j ms ≡ m ∷ drop (j + 1) ms) (next_at : drop j at ≡ s ∷ drop (j + 1) at) where
  segments_split : left_segments ms at j ≡ module_segments (j, stored_image (m, s)) ++ left_segments ms at (j + 1)
  segments_split = ap₂ (λ (xs : List PlacedModule) (ys : List Places). flat_map module_segments (enumerate_from j (stored_images xs ys))) next next_at

  starts_split : left_starts ms j ≡ option_to_list (own_numbered (j, m)) ++ left_starts ms (j + 1)
  starts_split = ap (λ (xs : List PlacedModule). filter_map own_numbered (enumerate_from j xs)) next ∙ cons_list (own_numbered (j, m)) (left_starts ms (j + 1))

  module _ (old new : Turns) (r : Relocated) (reached : IsRelocated m r) (t : IsTurn old j (m.0, s) r new) (h : AreTaken ms at is j old) where
    own : module_segments (j, ((m.0, s), image_bytes r)) ≡ module_segments (j, stored_image (m, s))
    own = ap (λ (x : ModuleBytes). module_segments (j, x)) (own_image m s r reached)

    within_next : All IsWithin (left_segments ms at (j + 1)) → All IsWithin (left_segments ms at 0)
    within_next w =
        let here : All IsWithin (module_segments (j, stored_image (m, s))) = subst (λ (xs : List SegmentAt). All IsWithin xs) own t.within in
        h.within (subst (λ (xs : List SegmentAt). All IsWithin xs) (sym segments_split) (all-both IsWithin (module_segments (j, stored_image (m, s))) (left_segments ms at (j + 1)) here w))

    shared_next : (a : ℕ) → shares (pieces (h.stretches ++ t.stretches)) a ++ segment_shares (left_segments ms at (j + 1)) a ≡ segment_shares (left_segments ms at 0) a
    shared_next a =
        let before = shares (pieces h.stretches) a in
        let rest = segment_shares (left_segments ms at (j + 1)) a in
        let here : shares (pieces t.stretches) a ≡ segment_shares (module_segments (j, stored_image (m, s))) a = t.shared a ∙ ap (λ (xs : List SegmentAt). segment_shares xs a) own in
        let split : segment_shares (left_segments ms at j) a ≡ segment_shares (module_segments (j, stored_image (m, s))) a ++ rest
        = ap (λ (xs : List SegmentAt). segment_shares xs a) segments_split ∙ filter_map-append (share_in a) (module_segments (j, stored_image (m, s))) (left_segments ms at (j + 1)) in
        ap (λ (xs : List Share). xs ++ rest) (shares_more h.stretches t.stretches a) ∙ append_assoc before (shares (pieces t.stretches) a) rest
        ∙ ap (λ (xs : List Share). before ++ (xs ++ rest)) here ∙ ap (λ (xs : List Share). before ++ xs) (sym split) ∙ h.shared a

    laid_next : AreLaidOver [] (all_zeros (spots is) ++ laid_pieces (h.stretches ++ t.stretches)) new.image
    laid_next =
        let all : (all_zeros (spots is) ++ laid_pieces h.stretches) ++ laid_pieces t.stretches ≡ all_zeros (spots is) ++ laid_pieces (h.stretches ++ t.stretches)
        = append_assoc (all_zeros (spots is)) (laid_pieces h.stretches) (laid_pieces t.stretches) ∙ ap (λ (ls : List Laid). all_zeros (spots is) ++ ls) (sym (map-append laid_piece h.stretches t.stretches)) in
        subst (λ (ls : List Laid). AreLaidOver [] ls new.image) all (laid-on [] old.image new.image (all_zeros (spots is) ++ laid_pieces h.stretches) (laid_pieces t.stretches) h.laid t.laid)

    started_next : new.starts.items ++ left_starts ms (j + 1) ≡ left_starts ms 0
    started_next =
        let one = option_to_list (own_numbered (j, m)) in
        ap (λ (xs : List (ℕ × (ℕ × ℕ))). xs ++ left_starts ms (j + 1)) (t.started ∙ ap (λ (o : Option (ℕ × (ℕ × ℕ))). old.starts.items ++ option_to_list o) (started_by j m r reached))
        ∙ append_assoc old.starts.items one (left_starts ms (j + 1)) ∙ ap (λ (xs : List (ℕ × (ℕ × ℕ))). old.starts.items ++ xs) (sym starts_split) ∙ h.started

    pub one_taken : AreTaken ms at is (j + 1) new
    one_taken = record {
      relocated = h.relocated ++ r ∷ [];
      stretches = h.stretches ++ t.stretches;
      each = one_relocated ms j m next h.relocated (h.relocated ++ r ∷ []) r refl reached h.each;
      lie = all-both Lies h.stretches t.stretches h.lie t.lie;
      within = within_next;
      shared = shared_next;
      counted = t.counted ∙ ap (λ (xs : List Interval). xs ++ intervals (pieces t.stretches)) h.counted ∙ sym (intervals_more h.stretches t.stretches);
      laid = laid_next;
      started = started_next;
    }

pub taken_next : (ms : List PlacedModule) (at : List Places) (is : List Interval) (j : ℕ) (m : PlacedModule) (s : Places) (old new : Turns) → drop j ms ≡ m ∷ drop (j + 1) ms → drop j at ≡ s ∷ drop (j + 1) at → IsTaken old j m s new → AreTaken ms at is j old → AreTaken ms at is (j + 1) new
taken_next ms at is j m s old new next more t h = one_taken ms at is j m s next more old new t.0 t.1 t.2 h

pub none_taken : (ms : List PlacedModule) (at : List Places) (is : List Interval) (t : Turns) → IsBegun is t → AreTaken ms at is 0 t
none_taken ms at is t h = record {
  relocated = [];
  stretches = [];
  each = tt;
  lie = All-nil Lies;
  within = λ w. w;
  shared = λ a. refl;
  counted = h.intervals;
  laid = subst (λ (ls : List Laid). AreLaidOver [] ls t.image) (sym (append-nil (all_zeros (spots is)))) h.zeros;
  started = ap (λ (xs : List (ℕ × (ℕ × ℕ))). xs ++ left_starts ms 0) h.starts;
}

-- ---- all modules

starts_by : (k : ℕ) (ms : List (List Rec)) (pls : List Places) (rs : List Relocated) → length pls ≡ length ms → AllZip IsRelocated (zip ms pls) rs
    → filter_map numbered_start (enumerate_from k (zip ms rs)) ≡ filter_map own_numbered (enumerate_from k (zip ms pls))
starts_by k [] pls rs e h = refl
starts_by k (m ∷ ms) [] rs e h = absurd (omega (arith, e))
starts_by k (m ∷ ms) (p ∷ pls) [] e h = absurd h
starts_by k (m ∷ ms) (p ∷ pls) (r ∷ rs) e h =
    ap₂ (λ (o : Option (ℕ × (ℕ × ℕ))) (xs : List (ℕ × (ℕ × ℕ))). cons_option o xs) (started_by k (m, p) r h.0) (starts_by (k + 1) ms pls rs (omega (arith, e)) h.1)

module _ (ms : List (List Rec)) (pls at : List Places) (is : List Interval) (j : ℕ) (t : Turns) (all : Together) (placed : length pls ≡ length ms) (none : drop j (zip ms pls) ≡ [])
    (h : AreTaken (zip ms pls) at is j t) (f : IsFinished t is all) where
  abbrev both : List PlacedModule
  both = zip ms pls

  no_segments : left_segments both at j ≡ []
  no_segments = ap (λ (xs : List PlacedModule). flat_map module_segments (enumerate_from j (stored_images xs (drop j at)))) none

  no_starts : left_starts both j ≡ []
  no_starts = ap (λ (xs : List PlacedModule). filter_map own_numbered (enumerate_from j xs)) none

  pieces_are : AreLaidOver [] (laid_pieces h.stretches) all.memory
  pieces_are =
      let same : spots is ≡ extents_in h.stretches = ap spots (sym f.same ∙ h.counted) ∙ spots_are h.stretches in
      let over : AreLaidOver [] (all_zeros (extents_in h.stretches) ++ laid_pieces h.stretches) t.image = subst (λ (es : List Extent). AreLaidOver [] (all_zeros es ++ laid_pieces h.stretches) t.image) same h.laid in
      subst (λ (i : List Laid). AreLaidOver [] (laid_pieces h.stretches) i) (sym f.memory) (zeros_lost h.stretches t.image over)

  all_shared : (a : ℕ) → shares (pieces h.stretches) a ≡ segment_shares (left_segments both at 0) a
  all_shared a = sym (append-nil (shares (pieces h.stretches) a)) ∙ ap (λ (xs : List SegmentAt). shares (pieces h.stretches) a ++ segment_shares xs a) (sym no_segments) ∙ h.shared a

  pub all_one : AreOne ms pls at all
  all_one =
      let memory = is_memory h.stretches None all.memory refl (f.apart h.stretches h.lie h.counted) pieces_are in
      let each = all_relocated both j h.relocated none h.each in
      let started : t.starts.items ≡ left_starts both 0 = sym (append-nil t.starts.items) ∙ ap (λ (xs : List (ℕ × (ℕ × ℕ))). t.starts.items ++ xs) (sym no_starts) ∙ h.started in
      record {
        at = record { relocated = h.relocated; each = each };
        laid = record {
          within = h.within (subst (λ (xs : List SegmentAt). All IsWithin xs) (sym no_segments) (All-nil IsWithin));
          apart = λ a. subst (λ (xs : List Share). IsNone (overlap xs)) (all_shared a) (memory.0 a);
          bytes = λ a. memory.1 a ∙ ap memory_byte (all_shared a);
          no_other = memory.2;
        };
        starts = ap one_start (starts_by 0 ms pls h.relocated placed each ∙ sym started) ∙ f.starts;
      }

pub all_finished : (ms : List (List Rec)) (pls at : List Places) (is js : List Interval) (j : ℕ) (t : Turns) (r : Option Together) → js ≡ is → length pls ≡ length ms → drop j (zip ms pls) ≡ []
    → AreTaken (zip ms pls) at is j t → IfSome r (IsFinished t js) → IfSome r (AreOne ms pls at)
all_finished ms pls at is js j t None e placed none h f = tt
all_finished ms pls at is js j t (Some all) e placed none h f = all_one ms pls at is j t all placed none h (subst (λ (xs : List Interval). IsFinished t xs all) e f)
