-- The first fault of a list in parts, and the parts that reach checks in order.
use Rattle.std.proofs.Common.{◌≡◌, ℕ, zero, suc, ◌+◌, ◌-◌, ◌≤◌, List, [], ◌∷◌, ◌++◌, sym, ◌∙◌, ap, arith, drop, true, false}
use Rattle.std.specs.Prelude.{Option, Some, None, slice_get, is_some}
use Rattle.std.proofs.lemmas.Bool.{true≢false, false≢true}
use Rattle.std.proofs.lemmas.Option.{none-some, same_Some}
use Rattle.omf_frame.specs.declared.fault.Place.{Place}
use Rattle.omf_records.specs.Values.{Rec}
use Rattle.omf_check.specs.Tables.{segments, entry}
use Rattle.omf_check.specs.declared.segment.SegInfo.{SegInfo}
use Rattle.omf_reloc.specs.declared.fault.Cause.{Cause}
use Rattle.omf_reloc.specs.declared.fault.ReachFault.{ReachFault}
use Rattle.omf_reloc.specs.declared.fault.ReachFault.TheVariants as fault
use Rattle.omf_reloc.specs.Plain.{Piece}
use Rattle.omf_placement.specs.Placement.{Places}
use Rattle.omf_reloc.specs.Reach.{misplaced, misfits, far_faults, reach_fault, Reaches}
use Rattle.omf_reloc.specs.Inner.ReachSteps.{miscounts, misplaced_from, far_at, place_after, piece_cause, pieces_far}
use Rattle.omf_placement.proofs.NamedLaws.{entry-suc}
use Rattle.omf_reloc.proofs.ReachLaws.{nil-right, first-none}

-- The first of two lists' elements: that of the first list, if it has one, or else that of the second.
pub first-stop : {A : Type 0} (r all : Option A) (xs ys : List A) → r ≡ slice_get xs 0 → is_some r ≡ true → slice_get (xs ++ ys) 0 ≡ all → r ≡ all
first-stop r all [] ys e b h = absurd (false≢true (sym (ap is_some e) ∙ b))
first-stop r all (x ∷ xs) ys e b h = e ∙ h

pub first-go : {A : Type 0} (r all : Option A) (xs ys : List A) → r ≡ slice_get xs 0 → is_some r ≡ false → slice_get (xs ++ ys) 0 ≡ all → slice_get ys 0 ≡ all
first-go r all [] ys e b h = h
first-go r all (x ∷ xs) ys e b h = absurd (true≢false (sym (ap is_some e) ∙ b))

-- One absolute segment more.
drop-entry : (infos : List SegInfo) (i : ℕ) (info : SegInfo) → slice_get infos i ≡ Some info → drop i infos ≡ info ∷ drop (i + 1) infos
drop-entry [] i info h = absurd (none-some info h)
drop-entry (x ∷ infos) zero info h = ap (λ y. y ∷ infos) (same_Some x info h)
drop-entry (x ∷ infos) (suc i) info h =
    let e : suc (i + 1) ≡ suc i + 1 = omega arith in drop-entry infos i info h ∙ ap (λ n. info ∷ drop n (x ∷ infos)) e

module _ (pl : Places) (infos : List SegInfo) (i : ℕ) (info : SegInfo) (low : 1 ≤ i) (e : entry infos i ≡ Some info) where
  segments-step : misplaced_from pl i (drop (i - 1) infos) ≡ misplaced pl i info.absolute ++ misplaced_from pl (i + 1) (drop (i + 1 - 1) infos)
  segments-step =
      let back : suc (i - 1) ≡ i = omega (arith, low) in
      let next : i - 1 + 1 ≡ i + 1 - 1 = omega (arith, low) in
      ap (misplaced_from pl i) (drop-entry infos (i - 1) info (sym (entry-suc infos (i - 1)) ∙ ap (entry infos) back ∙ e) ∙ ap (λ n. info ∷ drop n infos) next)

  module _ (r all : Option ReachFault) (found : r ≡ slice_get (misplaced pl i info.absolute) 0) (h : slice_get (misplaced_from pl i (drop (i - 1) infos)) 0 ≡ all) where
    pub segments-stop : is_some r ≡ true → r ≡ all
    segments-stop b = first-stop r all (misplaced pl i info.absolute) (misplaced_from pl (i + 1) (drop (i + 1 - 1) infos)) found b (sym (ap (λ xs. slice_get xs 0) segments-step) ∙ h)

    pub segments-go : is_some r ≡ false → slice_get (misplaced_from pl (i + 1) (drop (i + 1 - 1) infos)) 0 ≡ all
    segments-go b = first-go r all (misplaced pl i info.absolute) (misplaced_from pl (i + 1) (drop (i + 1 - 1) infos)) found b (sym (ap (λ xs. slice_get xs 0) segments-step) ∙ h)

-- One piece more.
module _ (pl : Places) (place : Option (ℕ × ℕ)) (xs ys : List (Place × Piece)) (x : Place × Piece) (e : xs ≡ x ∷ ys) where
  module _ (all : Option ReachFault) (cause : Option Cause) (found : cause ≡ piece_cause pl place x.1) (h : slice_get (pieces_far pl place xs) 0 ≡ all) where
    same : slice_get (far_at x.0.number x.0.within cause ++ pieces_far pl (place_after x.1 place) ys) 0 ≡ all
    same = ap (λ c. slice_get (far_at x.0.number x.0.within c ++ pieces_far pl (place_after x.1 place) ys) 0) found ∙ sym (ap (λ zs. slice_get (pieces_far pl place zs) 0) e) ∙ h

    pub pieces-stop : (c : Cause) → cause ≡ Some c → Some (fault.TooFar x.0.number x.0.within c) ≡ all
    pieces-stop c s = sym (ap (λ o. slice_get (far_at x.0.number x.0.within o ++ pieces_far pl (place_after x.1 place) ys) 0) s) ∙ same

    pub pieces-go : cause ≡ None → (next : Option (ℕ × ℕ)) → next ≡ place_after x.1 place → slice_get (pieces_far pl next ys) 0 ≡ all
    pieces-go s next n =
        ap (λ p. slice_get (pieces_far pl p ys) 0) n ∙ sym (ap (λ o. slice_get (far_at x.0.number x.0.within o ++ pieces_far pl (place_after x.1 place) ys) 0) s) ∙ same

-- The parts of the list of all faults.
pub first-later : {A : Type 0} (xs ys : List A) (o : Option A) → None ≡ slice_get xs 0 → o ≡ slice_get ys 0 → o ≡ slice_get (xs ++ ys) 0
first-later [] ys o h k = k
first-later (x ∷ xs) ys o h k = absurd (none-some x h)

pub first-front : {A : Type 0} (xs ys : List A) (x : A) → Some x ≡ slice_get xs 0 → Some x ≡ slice_get (xs ++ ys) 0
first-front [] ys x h = absurd (none-some x (sym h))
first-front (y ∷ xs) ys x h = h

module _ (pl : Places) (m : List Rec) where
  abbrev counts : List ReachFault
  counts = miscounts pl m

  abbrev moved : List ReachFault
  moved = misplaced_from pl 1 (segments m)

  -- What does not fit: the counts come before the absolute segments.
  pub counts_fault : (x : ReachFault) → Some x ≡ slice_get counts 0 → Some x ≡ slice_get (misfits pl m) 0
  counts_fault x h = first-front counts moved x h

  pub absolutes_fault : (o : Option ReachFault) → None ≡ slice_get counts 0 → o ≡ slice_get moved 0 → o ≡ slice_get (misfits pl m) 0
  absolutes_fault o h k = first-later counts moved o h k

  -- What does not fit comes before what does not reach.
  pub misfit-first : (x : ReachFault) → Some x ≡ slice_get (misfits pl m) 0 → reach_fault pl m ≡ Some x
  misfit-first x h = sym (first-front (counts ++ moved) (far_faults pl m) x h)

  pub far-behind : (o : Option ReachFault) → None ≡ slice_get (misfits pl m) 0 → o ≡ slice_get (far_faults pl m) 0 → reach_fault pl m ≡ o
  far-behind o h f = sym (first-later (counts ++ moved) (far_faults pl m) o h f)

  -- If a placement reaches, every reference reaches.
  pub reached-not-far : (x : ReachFault) → Reaches pl m → slice_get (far_faults pl m) 0 ≡ Some x → ⊥
  reached-not-far x r h =
      let none = nil-right (misfits pl m) (far_faults pl m) (first-none (misfits pl m ++ far_faults pl m) r) in
      none-some x (sym (ap (λ l. slice_get l 0) none) ∙ h)
