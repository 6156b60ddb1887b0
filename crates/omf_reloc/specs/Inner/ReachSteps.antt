-- The steps of a walk over a module's pieces that checks a placement. Only private functions use these
-- definitions; the contract of the public function uses Reach, and the law FaultsAreWalked shows that both give the same faults.
use Rattle.std.specs.Prelude.{◌≡◌, ⊤, ℕ, List, [], ◌∷◌, ◌++◌, Option, Some, None, option_map, option_to_list, flat_map}
use Rattle.std.specs.Result.{result_err}
use Rattle.std.specs.List.{enumerate_from}
use Rattle.omf_frame.specs.declared.fault.Place.{Place}
use Rattle.omf_records.specs.Values.{Rec, Contents, Plain, Iterated}
use Rattle.omf_check.specs.declared.segment.SegInfo.{SegInfo}
use Rattle.omf_reloc.specs.Inner.Names.{extra, missing, given, all_kinds}
use Rattle.omf_reloc.specs.declared.fault.Cause.{Cause}
use Rattle.omf_reloc.specs.declared.fault.ReachFault.{ReachFault}
use Rattle.omf_reloc.specs.declared.fault.ReachFault.TheVariants as fault
use Rattle.omf_reloc.specs.declared.fault.RelocateFault.{RelocateFault}
use Rattle.omf_reloc.specs.declared.fault.RelocateFault.TheVariants as relocate
use Rattle.omf_reloc.specs.Reach.{entries, misplaced}
use Rattle.omf_reloc.specs.Offsets.{outcome_at, start_outcome}
use Rattle.omf_placement.specs.Placement.{Places}
use Rattle.omf_reloc.specs.Plain.{Piece, Kept, Fixed, End}

-- The faults of the counts, and those of absolute segments, the first of which has this index.
abbrev pub miscounts : Places → List Rec → List ReachFault
miscounts pl m = flat_map (λ k. missing k (entries m k) (given pl k)) all_kinds ++ flat_map (λ k. extra k (entries m k) (given pl k)) all_kinds

abbrev pub misplaced_from : Places → ℕ → List SegInfo → List ReachFault
misplaced_from pl k infos = flat_map (λ s. misplaced pl s.0 s.1.absolute) (enumerate_from k infos)

-- The segment and the offset of the last data record, if there is one, after one more record, and after one more piece.
abbrev pub data_place : Contents → Option (ℕ × ℕ) → Option (ℕ × ℕ)
data_place (Plain d) old = Some (d.segment.item, d.offset.item)
data_place (Iterated d) old = Some (d.segment.item, d.offset.item)
data_place _ old = old

abbrev pub place_after : Piece → Option (ℕ × ℕ) → Option (ℕ × ℕ)
place_after (Kept r) old = data_place r.contents old
place_after (Fixed kind fixups) old = old
place_after (End kind byte start) old = old

-- Why a piece with at most one fixup does not reach, if it does not. The last data record before it is at this offset of this segment.
abbrev pub piece_cause : Places → Option (ℕ × ℕ) → Piece → Option Cause
piece_cause pl place (Kept r) = None
piece_cause pl None (Fixed kind fixups) = None
piece_cause pl (Some p) (Fixed kind []) = None
piece_cause pl (Some p) (Fixed kind (f ∷ fixups)) = result_err (outcome_at pl p.0 p.1 (kind, f))
piece_cause pl place (End kind byte None) = None
piece_cause pl place (End kind byte (Some r)) = result_err (start_outcome pl kind r)

-- The fault of a reference at an offset of the record with this number, if it does not reach; and all such faults of the pieces from one
-- on.
abbrev pub far_at : ℕ → ℕ → Option Cause → List ReachFault
far_at number within c = option_to_list (option_map (λ x. fault.TooFar number within x) c)

abbrev pub pieces_far : Places → Option (ℕ × ℕ) → List (Place × Piece) → List ReachFault
pieces_far pl place [] = []
pieces_far pl place (x ∷ xs) = far_at x.0.number x.0.within (piece_cause pl place x.1) ++ pieces_far pl (place_after x.1 place) xs

-- A fault of the walk over the pieces: the first reference that does not reach; or Memory.
abbrev pub IsFirstFar : Option ReachFault → RelocateFault → Type 0
IsFirstFar first (relocate.Reach f) = first ≡ Some f
IsFirstFar first relocate.Memory = ⊤
