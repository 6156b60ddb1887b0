-- Segments, one after another, as stretches.
use Rattle.std.proofs.Common.{◌≡◌, ℕ, ◌+◌, ◌<◌, ◌≤◌, List, [], ◌∷◌, ◌++◌, length, take, drop, get_or, sym, ap, subst, ◌∙◌}
use Rattle.std.specs.Prelude.{All, Err}
use Rattle.std.proofs.lemmas.Grind.{take_at_read}
use Rattle.std.proofs.lemmas.List.{drop_more, map-append, take_all, take-append-drop}
use Rattle.std.proofs.lemmas.List.Elements.{filter_map-append, All-nil, All-cons, All-head, All-tail}
use Rattle.omf_linking.specs.declared.space.fault.MemoryFault.{MemoryFault}
use Rattle.omf_linking.specs.declared.space.fault.MemoryFault.TheVariants as fault
use Rattle.omf_linking.specs.declared.space.segment.PlacedSegment.{PlacedSegment}
use Rattle.omf_linking.specs.declared.space.stretch.Owner.{Owner}
use Rattle.omf_linking.specs.declared.space.stretch.Stretch.{Stretch}
use Rattle.omf_linking.specs.Space.Memory.{Share, pieces, shares}
use Rattle.omf_linking.specs.Inner.Runs.{HasMore, IsAdded, AreStretches}
use Rattle.omf_linking.specs.Space.Segments.{SegmentAt, segment_at, segments_at, share_in, segment_shares, IsWithin, IsBeyond, IsFirstBeyond}

pub all_more : {A : Type 0} (P : A → Type 0) (xs : List A) (x : A) → All P xs → P x → All P (xs ++ x ∷ [])
all_more P [] x h p = All-cons P x [] p (All-nil P)
all_more P (y ∷ xs) x h p = All-cons P y (xs ++ x ∷ []) (All-head P y xs h) (all_more P xs x (All-tail P y xs h) p)

module _ (ss : List PlacedSegment) (i : ℕ) (s : PlacedSegment) (is : s ≡ get_or ss i s) (inside : i < length ss) where
  next : segments_at (take (i + 1) ss) ≡ segments_at (take i ss) ++ segment_at s ∷ []
  next = ap segments_at ((take_at_read ss i s inside).1 ∙ ap (λ (t : PlacedSegment). take i ss ++ t ∷ []) (sym is)) ∙ map-append segment_at (take i ss) (s ∷ [])

  pub within_next : All IsWithin (segments_at (take i ss)) → IsWithin (segment_at s) → All IsWithin (segments_at (take (i + 1) ss))
  within_next h w = subst (λ (xs : List SegmentAt). All IsWithin xs) (sym next) (all_more IsWithin (segments_at (take i ss)) (segment_at s) h w)

  pub shares_next : (old new : List Stretch) → ((a : ℕ) → shares (pieces old) a ≡ segment_shares (segments_at (take i ss)) a) → HasMore old (segment_at s) new
      → (a : ℕ) → shares (pieces new) a ≡ segment_shares (segments_at (take (i + 1) ss)) a
  shares_next old new h more a =
      more a ∙ ap (λ (xs : List Share). xs ++ segment_shares (segment_at s ∷ []) a) (h a)
      ∙ sym (ap (λ (xs : List SegmentAt). segment_shares xs a) next ∙ filter_map-append (share_in a) (segments_at (take i ss)) (segment_at s ∷ []))

  left : drop i ss ≡ s ∷ drop (i + 1) ss
  left = drop_more ss i s inside ∙ ap (λ (t : PlacedSegment). t ∷ drop (i + 1) ss) (sym is)

  pub first_beyond : (o : Owner) → All IsWithin (segments_at (take i ss)) → IsBeyond (segment_at s) → s.owner ≡ o → IsFirstBeyond (segments_at ss) o
  first_beyond o h b e = record {
    before = segments_at (take i ss);
    segment = segment_at s;
    after = segments_at (drop (i + 1) ss);
    listed = ap segments_at (sym (take-append-drop i ss) ∙ ap (λ (xs : List PlacedSegment). take i ss ++ xs) left) ∙ map-append segment_at (take i ss) (s ∷ drop (i + 1) ss);
    within = h;
    beyond = b;
    owned = e;
  }

  pub told_first : (f : MemoryFault) → All IsWithin (segments_at (take i ss)) → IsAdded (segment_at s) (Err f) → AreStretches (segments_at ss) (Err f)
  told_first fault.Memory h a = tt
  told_first (fault.Beyond o) h a = first_beyond o h a.0 a.1
  told_first (fault.Overlap x y z) h a = absurd a

pub all_taken : (ss : List PlacedSegment) (i : ℕ) → length ss ≤ i → segments_at (take i ss) ≡ segments_at ss
all_taken ss i past = ap segments_at (take_all i ss past)
