-- Whether a placement reaches, and the first reason why it does not.
use Rattle.std.specs.Option.{option_map_or}
use Rattle.std.specs.Prelude.{◌≡◌, ℕ, ◌+◌, List, [], ◌∷◌, ◌++◌, length, map, flat_map, filter_map, zip, false, ◌==◌, ◌&&◌, nat_lt, Option, Some, None, option_map, if◌then◌else◌, slice_get}
use Rattle.std.specs.List.{enumerate_from}
use Rattle.std.specs.Result.{result_err}
use Rattle.omf_reloc.specs.declared.fault.Cause.{Cause}
use Rattle.omf_reloc.specs.declared.fault.Kind.{Kind}
use Rattle.omf_reloc.specs.declared.fault.Kind.TheVariants as kinds
use Rattle.omf_reloc.specs.declared.fault.ReachFault.{ReachFault}
use Rattle.omf_reloc.specs.declared.fault.ReachFault.TheVariants as fault
use Rattle.omf_frame.specs.Bytes.{with_after}
use Rattle.omf_records.specs.Values.{Rec, Contents, Fixups, ModEnd, Subrecord, Thread, Fixup}
use Rattle.omf_check.specs.Tables.{segments, groups, externals, entry}
use Rattle.omf_reloc.specs.Plain.{Piece, Kept, End, pieces, data_contents, fixups_of_data}
use Rattle.omf_placement.specs.declared.frame.Placed.{Placed}
use Rattle.omf_placement.specs.Placement.{Places, absolute_place}
use Rattle.omf_reloc.specs.Offsets.{outcome, start_outcome}

-- Why each fixup of a data record does not reach, in file order; None for one that reaches.
abbrev pub piece_causes : Places → Piece → List Piece → List (Option Cause)
piece_causes pl (Kept r) after = option_map_or (λ d. map (λ f. result_err (outcome pl d f)) (fixups_of_data after)) (data_contents r.contents) []
piece_causes pl (End kind byte (Some r)) after = result_err (start_outcome pl kind r) ∷ []
piece_causes pl _ after = []

-- The same for each fixup of the module, in file order, and for the start, last.
abbrev pub causes : Places → List Piece → List (Option Cause)
causes pl ps = with_after (piece_causes pl) ps

-- The places of these references: the record's number, and the offset in the record of the fixup's first byte, or of the start's fix data
-- byte.
abbrev pub fixup_place : ℕ → Subrecord → Option ℕ
fixup_place within (Thread byte datum) = None
fixup_place within (Fixup locat r) = Some within

abbrev pub reference_places : Contents → List ℕ
reference_places (Fixups subs) = filter_map (λ s. fixup_place s.within s.item) subs
reference_places (ModEnd byte (Some r)) = r.fix.within ∷ []
reference_places _ = []

abbrev pub all_reference_places : List Rec → List (ℕ × ℕ)
all_reference_places m = flat_map (λ p. map (λ within. (p.0, within)) (reference_places p.1.contents)) (enumerate_from 0 m)

-- Each kind, with the number of entries in the module's table and in the placement.
abbrev pub counts : Places → List Rec → List (Kind × ℕ × ℕ)
counts pl m = (kinds.Segment, length (segments m), length pl.segments) ∷ (kinds.Group, length (groups m), length pl.groups) ∷ (kinds.External, length (externals m), length pl.externals) ∷ []

-- The number of entries in the module's table of a kind.
abbrev pub entries : List Rec → Kind → ℕ
entries m kinds.Segment = length (segments m)
entries m kinds.Group = length (groups m)
entries m kinds.External = length (externals m)

-- An absolute segment that is not placed where its SEGDEF puts it. Its address, its frame's base and its selector all count.
abbrev pub misplaced : Places → ℕ → Option (ℕ × ℕ) → List ReachFault
misplaced pl i None = []
misplaced pl i (Some a) = let q = absolute_place a.0 a.1 in
    let is_there = λ (p : Placed). (p.address == q.address) && (p.frame.base == q.frame.base) && (p.frame.selector == q.frame.selector) in
    if option_map_or is_there (entry pl.segments i) false then [] else fault.Absolute i ∷ []

-- All faults of the fit between a placement and a module: the first entry that is missing, and the first that is extra, both by kind, and absolute
-- segments that are misplaced.
abbrev pub misfits : Places → List Rec → List ReachFault
misfits pl m =
    flat_map (λ k. if nat_lt k.2 k.1 then fault.Missing k.0 (k.2 + 1) ∷ [] else []) (counts pl m)
    ++ flat_map (λ k. if nat_lt k.1 k.2 then fault.Extra k.0 (k.1 + 1) ∷ [] else []) (counts pl m)
    ++ flat_map (λ s. misplaced pl s.0 s.1.absolute) (enumerate_from 1 (segments m))

-- The faults of all references that do not reach.
abbrev pub far_faults : Places → List Rec → List ReachFault
far_faults pl m = filter_map (λ p. option_map (λ c. fault.TooFar p.0.0 p.0.1 c) p.1) (zip (all_reference_places m) (causes pl (pieces m)))

-- The first fault of reach, if there is one: those of the fit come first.
abbrev pub reach_fault : Places → List Rec → Option ReachFault
reach_fault pl m = slice_get (misfits pl m ++ far_faults pl m) 0

-- A placement reaches if it has no fault of reach: it fits the module, and every fixup and the start reach (law reach_is_decided).
abbrev pub Reaches : Places → List Rec → Type 0
Reaches pl m = reach_fault pl m ≡ None
