-- The references of a well-formed module are judged one after another: their faults, from left to right, are those that the definition lists by data records.
use Rattle.std.proofs.Common.{◌≡◌, ℕ, ◌+◌, List, [], ◌∷◌, ◌++◌, refl, sym, ◌∙◌, ap, ap₂, subst, length, map, arith, length-append}
use Rattle.std.specs.Prelude.{filter_map, zip, Option, Some, None}
use Rattle.std.proofs.lemmas.Option.{none-some}
use Rattle.std.specs.Result.{result_err}
use Rattle.omf_frame.specs.declared.fault.Place.{Place}
use Rattle.omf_image.specs.declared.limits.Limits.{Limits}
use Rattle.omf_records.specs.Values.{Rec, Contents, Names, Plain, Iterated}
use Rattle.omf_check.specs.Sound.{ModuleHolds}
use Rattle.omf_reloc.specs.Inner.Names.{far_fault}
use Rattle.omf_reloc.specs.declared.fault.Cause.{Cause}
use Rattle.omf_reloc.specs.declared.fault.ReachFault.{ReachFault}
use Rattle.omf_reloc.specs.declared.fault.ReachFault.TheVariants as fault
use Rattle.omf_reloc.specs.Offsets.{outcome_at, start_outcome}
use Rattle.omf_reloc.specs.Inner.Pieces.{single_pieces, references_at, reference_places, placed_pieces}
use Rattle.omf_placement.specs.Placement.{Places}
use Rattle.omf_reloc.specs.Plain.{Piece, Kept, Fixed, End, PlainFixup, pieces, fixups_of_data}
use Rattle.omf_reloc.specs.Reach.{causes, all_reference_places, far_faults}
use Rattle.omf_reloc.specs.Inner.ReachSteps.{far_at, data_place, place_after, piece_cause, pieces_far}
use Rattle.omf_reloc.proofs.HoldLaws.{PlainFixupHolds, PieceHolds, PiecesHold, data_kept, data_after, pieces-hold}
use Rattle.omf_reloc.proofs.PieceLaws.{numbered_records, pieces-listed, numbered-listed, numbered-placed}
use Rattle.omf_reloc.proofs.SingleLaws.{causes-same}

abbrev faults_of : List (ℕ × ℕ) → List (Option Cause) → List ReachFault
faults_of ps cs = filter_map far_fault (zip ps cs)

abbrev pub without_places : List (Place × Piece) → List Piece
without_places xs = map (λ p. p.1) xs

-- Places and causes in two parts.
zip-append : (ps qs : List (ℕ × ℕ)) (cs ds : List (Option Cause)) → length ps ≡ length cs → faults_of (ps ++ qs) (cs ++ ds) ≡ faults_of ps cs ++ faults_of qs ds
zip-append [] qs [] ds e = refl
zip-append [] qs (c ∷ cs) ds e = absurd (omega (arith, e))
zip-append (p ∷ ps) qs [] ds e = absurd (omega (arith, e))
zip-append (p ∷ ps) qs (None ∷ cs) ds e = zip-append ps qs cs ds (omega (arith, e))
zip-append (p ∷ ps) qs (Some c ∷ cs) ds e = ap (λ fs. fault.TooFar p.0 p.1 c ∷ fs) (zip-append ps qs cs ds (omega (arith, e)))

-- The causes of fixups that belong to the last data record.
abbrev pending : Places → Option (ℕ × ℕ) → List (ℕ × PlainFixup) → List (Option Cause)
pending pl None fs = []
pending pl (Some p) fs = map (λ f. result_err (outcome_at pl p.0 p.1 f)) fs

one-far : (number within : ℕ) (c : Option Cause) → faults_of ((number, within) ∷ []) (c ∷ []) ≡ far_at number within c
one-far number within None = refl
one-far number within (Some c) = refl

-- The place of a data record, after one more piece.
abbrev pub place_of : Option Contents → Option (ℕ × ℕ)
place_of (Some (Plain d)) = Some (d.segment.item, d.offset.item)
place_of (Some (Iterated d)) = Some (d.segment.item, d.offset.item)
place_of _ = None

place-kept : (c : Contents) (o : Option Contents) → data_place c (place_of o) ≡ place_of (data_kept c o)
place-kept (Plain d) o = refl
place-kept (Iterated d) o = refl
place-kept (Names items) o = refl
place-kept _ o = refl

pub place-after : (p : Piece) (o : Option Contents) → place_after p (place_of o) ≡ place_of (data_after p o)
place-after (Kept r) o = place-kept r.contents o
place-after (Fixed kind fs) o = refl
place-after (End kind byte s) o = refl

-- A fixup has a data record before it.
pub no-data : (m : List Rec) (o : Option Contents) (f : PlainFixup) → None ≡ place_of o → PlainFixupHolds m o f → ⊥
no-data m o f e h = none-some _ (e ∙ ap place_of h.is_last)

-- One piece.
pending-nil : (pl : Places) (place : Option (ℕ × ℕ)) → pending pl place [] ≡ []
pending-nil pl None = refl
pending-nil pl (Some p) = refl

module _ (pl : Places) (limits : Limits) (m : List Rec) where
  -- there is a place for each cause, and the faults of both are these
  record AreFar (ps : List (ℕ × ℕ)) (cs : List (Option Cause)) (fs : List ReachFault) : Type 0 where
    count : length ps ≡ length cs
    faults : faults_of ps cs ≡ fs

  join : (ps qs : List (ℕ × ℕ)) (cs ds : List (Option Cause)) (fs gs : List ReachFault) → AreFar ps cs fs → AreFar qs ds gs → AreFar (ps ++ qs) (cs ++ ds) (fs ++ gs)
  join ps qs cs ds fs gs h k = record {
    count = length-append ps qs ∙ ap₂ (λ x y. x + y) h.count k.count ∙ sym (length-append cs ds);
    faults = zip-append ps qs cs ds h.count ∙ ap₂ (λ x y. x ++ y) h.faults k.faults;
  }

  abbrev After : List Piece → Option (ℕ × ℕ) → List (Option Cause)
  After ps place = pending pl place (fixups_of_data ps) ++ causes pl ps

  after-data : (ps : List Piece) (place : Option (ℕ × ℕ)) (cs : List (Option Cause)) (ps' : List (ℕ × ℕ)) (fs : List ReachFault) → AreFar ps' cs fs → AreFar ps' (pending pl place [] ++ cs) fs
  after-data ps place cs ps' fs h = subst (λ xs. AreFar ps' (xs ++ cs) fs) (sym (pending-nil pl place)) h

  of-kept : (c : Contents) (r : Rec) (place : Option (ℕ × ℕ)) (ps : List Piece) (qs : List (ℕ × ℕ)) (tail : List ReachFault) → r.contents ≡ c
      → AreFar qs (After ps (data_place c place)) tail → AreFar qs (After (Kept (record r { contents = c }) ∷ ps) place) tail
  of-kept (Plain d) r place ps qs tail e k = after-data ps place (After ps (Some (d.segment.item, d.offset.item))) qs tail k
  of-kept (Iterated d) r place ps qs tail e k = after-data ps place (After ps (Some (d.segment.item, d.offset.item))) qs tail k
  of-kept (Names items) r place ps qs tail e k = k
  of-kept _ r place ps qs tail e k = k

  of-fixup : (at : Place) (kind : ℕ) (f : PlainFixup) (p : ℕ × ℕ) (ps : List Piece) (qs : List (ℕ × ℕ)) (tail : List ReachFault) → AreFar qs (After ps (Some p)) tail
      → AreFar ((at.number, at.within) ∷ qs) (After (Fixed kind (f ∷ []) ∷ ps) (Some p)) (far_at at.number at.within (result_err (outcome_at pl p.0 p.1 (kind, f))) ++ tail)
  of-fixup at kind f p ps qs tail k =
      let c = result_err (outcome_at pl p.0 p.1 (kind, f)) in
      join ((at.number, at.within) ∷ []) qs (c ∷ []) (After ps (Some p)) (far_at at.number at.within c) tail (record { count = refl; faults = one-far at.number at.within c }) k

  of-start : (at : Place) (kind byte : ℕ) (r : _) (place : Option (ℕ × ℕ)) (ps : List Piece) (qs : List (ℕ × ℕ)) (tail : List ReachFault) → ps ≡ [] → AreFar qs (After ps place) tail
      → AreFar ((at.number, at.within) ∷ qs) (After (End kind byte (Some r) ∷ ps) place) (far_at at.number at.within (result_err (start_outcome pl kind r)) ++ tail)
  of-start at kind byte r place ps qs tail e k =
      let c = result_err (start_outcome pl kind r) in
      let one : AreFar ((at.number, at.within) ∷ []) (c ∷ []) (far_at at.number at.within c) = record { count = refl; faults = one-far at.number at.within c } in
      let none : pending pl place (fixups_of_data ps) ≡ [] = ap (λ xs. pending pl place (fixups_of_data xs)) e ∙ pending-nil pl place in
      let rest : AreFar qs (causes pl ps) tail = subst (λ xs. AreFar qs (xs ++ causes pl ps) tail) none k in
      subst (λ xs. AreFar ((at.number, at.within) ∷ qs) (xs ++ c ∷ causes pl ps) (far_at at.number at.within c ++ tail)) (sym none)
      (join ((at.number, at.within) ∷ []) qs (c ∷ []) (causes pl ps) (far_at at.number at.within c) tail one rest)

  of-piece : (at : Place) (p : Piece) (last_one : Option Contents) (place : Option (ℕ × ℕ)) (ps : List Piece) (qs : List (ℕ × ℕ)) (tail : List ReachFault)
      → place ≡ place_of last_one → PieceHolds limits m last_one p ps → AreFar qs (After ps (place_after p place)) tail
      → AreFar (references_at at p ++ qs) (After (p ∷ ps) place) (far_at at.number at.within (piece_cause pl place p) ++ tail)
  of-piece at (Kept r) last_one place ps qs tail e h k = of-kept r.contents r place ps qs tail refl k
  of-piece at (Fixed kind []) last_one place ps qs tail e h k = absurd h
  of-piece at (Fixed kind (f ∷ [])) last_one None ps qs tail e h k = absurd (no-data m last_one f e h)
  of-piece at (Fixed kind (f ∷ [])) last_one (Some p) ps qs tail e h k = of-fixup at kind f p ps qs tail k
  of-piece at (Fixed kind (f ∷ g ∷ fs)) last_one place ps qs tail e h k = absurd h
  of-piece at (End kind byte None) last_one place ps qs tail e h k = k
  of-piece at (End kind byte (Some r)) last_one place ps qs tail e h k = of-start at kind byte r place ps qs tail h.2 k

  from-here : (xs : List (Place × Piece)) (last_one : Option Contents) (place : Option (ℕ × ℕ)) → place ≡ place_of last_one → PiecesHold limits m last_one (without_places xs)
      → AreFar (reference_places xs) (After (without_places xs) place) (pieces_far pl place xs)
  from-here [] last_one place e h = after-data [] place [] [] [] (record { count = refl; faults = refl })
  from-here (x ∷ xs) last_one place e h =
      of-piece x.0 x.1 last_one place (without_places xs) (reference_places xs) (pieces_far pl (place_after x.1 place) xs) e h.0
      (from-here xs (data_after x.1 last_one) (place_after x.1 place) (ap (place_after x.1) e ∙ place-after x.1 last_one) h.1)

module _ (pl : Places) (limits : Limits) (m : List Rec) (holds : ModuleHolds limits m) where
  module _ (xs : List (Place × Piece)) (listed : without_places xs ≡ single_pieces m) (placed : reference_places xs ≡ all_reference_places m) where
    walked : AreFar pl limits m (all_reference_places m) (causes pl (pieces m)) (pieces_far pl None xs)
    walked =
        subst (λ ps. AreFar pl limits m ps (causes pl (pieces m)) (pieces_far pl None xs)) placed
        (subst (λ cs. AreFar pl limits m (reference_places xs) cs (pieces_far pl None xs)) (ap (causes pl) listed ∙ causes-same pl (pieces m))
        (from-here pl limits m xs None None refl (subst (PiecesHold limits m None) (sym listed) (pieces-hold limits m holds))))

    pub far-walked : far_faults pl m ≡ pieces_far pl None xs
    far-walked = walked.faults

    all-counted : length (causes pl (pieces m)) ≡ length (all_reference_places m)
    all-counted = sym walked.count

  pub all-placed : length (causes pl (pieces m)) ≡ length (all_reference_places m)
  all-placed = all-counted (placed_pieces (numbered_records m)) (pieces-listed m (numbered_records m) (numbered-listed 0 m)) (numbered-placed m)
