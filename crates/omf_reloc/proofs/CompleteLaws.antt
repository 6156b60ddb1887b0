-- A derived placement has no missing and no extra entry.
use Rattle.std.proofs.Common.{◌≡◌, ℕ, true, false, List, [], ◌∷◌, ◌++◌, length, ap, ◌∙◌, subst}
use Rattle.std.specs.Prelude.{All, flat_map, filter_map, zip, slice_get, cond, Bool, Option, Some, None, ⊤}
use Rattle.std.specs.List.{AllZip, enumerate_from}
use Rattle.std.proofs.lemmas.List.Elements.{All-nil, All-cons, All-head, All-tail, All-append, All-same}
use Rattle.std.proofs.lemmas.Option.{none-some, same_Some}
use Rattle.omf_check.specs.Tables.{segments, entry}
use Rattle.omf_check.specs.declared.segment.SegInfo.{SegInfo}
use Rattle.omf_reloc.specs.Inner.Names.{far_fault, reach_faults, given, lies_at}
use Rattle.omf_reloc.specs.declared.fault.Cause.{Cause}
use Rattle.omf_reloc.specs.declared.fault.Kind.{Kind}
use Rattle.omf_reloc.specs.declared.fault.Kind.TheVariants as kinds
use Rattle.omf_reloc.specs.declared.fault.ReachFault.{ReachFault}
use Rattle.omf_reloc.specs.declared.fault.ReachFault.TheVariants as fault
use Rattle.omf_placement.specs.Derive.{PlacedModule}
use Rattle.omf_placement.specs.Derivation.{IsPlaceOf, KeepsPlace}
use Rattle.omf_placement.specs.Placement.{Places, absolute_place}
use Rattle.omf_reloc.specs.Laws.{IsComplete, DerivedAreComplete}
use Rattle.omf_reloc.specs.Plain.{pieces}
use Rattle.omf_reloc.specs.Reach.{entries, misplaced, causes, all_reference_places, far_faults}
use Rattle.omf_placement.proofs.DeriveLaws.{derived-fit}
use Rattle.omf_reloc.proofs.ReachLaws.{counts-fit}

-- Faults other than missing and extra entries.
abbrev IsOther : ReachFault → Type 0
IsOther (fault.Missing k i) = ⊥
IsOther (fault.Extra k i) = ⊥
IsOther (fault.Absolute i) = ⊤
IsOther (fault.TooFar n w c) = ⊤

misplaced-other : (i : ℕ) (a b : Bool) → All IsOther (cond b [] (fault.Absolute i ∷ []))
misplaced-other i a true = All-nil IsOther
misplaced-other i a false = All-cons IsOther (fault.Absolute i) [] tt (All-nil IsOther)

one-misplaced : (pl : Places) (i : ℕ) (a : Option (ℕ × ℕ)) → All IsOther (misplaced pl i a)
one-misplaced pl i None = All-nil IsOther
one-misplaced pl i (Some a) = misplaced-other i true (lies_at (entry pl.segments i) (absolute_place a.0 a.1))

all-misplaced : (pl : Places) (infos : List (ℕ × SegInfo)) → All IsOther (flat_map (λ s. misplaced pl s.0 s.1.absolute) infos)
all-misplaced pl [] = All-nil IsOther
all-misplaced pl (s ∷ infos) = All-append IsOther (misplaced pl s.0 s.1.absolute) (flat_map (λ x. misplaced pl x.0 x.1.absolute) infos) (one-misplaced pl s.0 s.1.absolute) (all-misplaced pl infos)

all-far : (xs : List ((ℕ × ℕ) × Option Cause)) → All IsOther (filter_map far_fault xs)
all-far [] = All-nil IsOther
all-far ((p, None) ∷ xs) = all-far xs
all-far ((p, Some c) ∷ xs) = All-cons IsOther (fault.TooFar p.0 p.1 c) (filter_map far_fault xs) tt (all-far xs)

first-of : (xs : List ReachFault) (f : ReachFault) → All IsOther xs → slice_get xs 0 ≡ Some f → IsOther f
first-of [] f h e = absurd (none-some f e)
first-of (x ∷ xs) f h e = subst IsOther (same_Some x f e) (All-head IsOther x xs h)

module _ (m : PlacedModule) (pl : Places) (own : IsPlaceOf m.0 m.1) (kept : KeepsPlace m pl) where
  same : (k : Kind) → given pl k ≡ entries m.0 k
  same kinds.Segment = ap length kept.segments ∙ own.segments
  same kinds.Group = ap length kept.groups ∙ own.groups
  same kinds.External = kept.external_count

  all-other : All IsOther (reach_faults pl m.0)
  all-other =
      let places = flat_map (λ s. misplaced pl s.0 s.1.absolute) (enumerate_from 1 (segments m.0)) in
      All-same IsOther (reach_faults pl m.0) (places ++ far_faults pl m.0) (ap (λ xs. (xs ++ places) ++ far_faults pl m.0) (counts-fit pl m.0 same))
      (All-append IsOther places (far_faults pl m.0) (all-misplaced pl (enumerate_from 1 (segments m.0))) (all-far (zip (all_reference_places m.0) (causes pl (pieces m.0)))))

  complete : IsComplete m pl
  complete = record {
    never_missing = λ k i e. first-of (reach_faults pl m.0) (fault.Missing k i) all-other e;
    never_extra = λ k i e. first-of (reach_faults pl m.0) (fault.Extra k i) all-other e;
  }

all-complete : (ms : List PlacedModule) (pls : List Places) → All (λ m. IsPlaceOf m.0 m.1) ms → AllZip KeepsPlace ms pls → AllZip IsComplete ms pls
all-complete [] [] h k = tt
all-complete [] (p ∷ ps) h k = absurd k
all-complete (m ∷ ms) [] h k = absurd k
all-complete (m ∷ ms) (p ∷ ps) h (k, r) = (complete m p (All-head (λ n. IsPlaceOf n.0 n.1) m ms h) k, all-complete ms ps (All-tail (λ n. IsPlaceOf n.0 n.1) m ms h) r)

pub derived-complete : DerivedAreComplete
derived-complete = λ ms given pls h e. all-complete ms pls h (derived-fit ms given pls e)
