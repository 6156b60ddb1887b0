-- Names for parts of definitions, used in proofs and in contracts of private functions.

use Rattle.omf_placement.specs.declared.frame.Placed.{Placed}
use Rattle.std.specs.Result.{result_map_both, result_err}
use Rattle.std.specs.Option.{option_map_or}
use Rattle.std.specs.Prelude.{ℕ, List, [], Result, ◌≤◌, ◌⊎◌, ◌<◌, All, ◌+◌, map, ◌∷◌, nat_lt, option_map, Option, ◌++◌, length, if◌then◌else◌, ok_or, slice_get, Err, ◌==◌, ◌&&◌, Bool, false}
use Rattle.omf_image.specs.Parts.{Addition}
use Rattle.omf_reloc.specs.Additions.{type_of_number, additions_at}
use Rattle.omf_reloc.specs.declared.fault.Cause.{Cause}
use Rattle.omf_reloc.specs.declared.fault.Cause.TheVariants as cause
use Rattle.omf_placement.specs.declared.frame.Frame.{Frame}
use Rattle.omf_reloc.specs.Offsets.{offsets, outcome}
use Rattle.omf_reloc.specs.Plain.{PlainFixup, plain_fixup, Piece, fixups_of_data}
use Rattle.omf_records.specs.Values.{Subrecord, At, Rec, location_offset, location_type, DataItem}
use Rattle.omf_frame.specs.Bytes.{with_before}
use Rattle.omf_reloc.specs.declared.fault.ReachFault.{ReachFault}
use Rattle.omf_reloc.specs.declared.fault.ReachFault.TheVariants as fault
use Rattle.omf_reloc.specs.declared.fault.Kind.{Kind}
use Rattle.omf_reloc.specs.declared.fault.Kind.TheVariants as kinds
use Rattle.omf_reloc.specs.Reach.{misfits, far_faults}
use Rattle.omf_placement.specs.Placement.{Places}
use Rattle.omf_frame.specs.Framing.{Raw}
use Rattle.omf_check.specs.declared.profile.Profile.{Profile}
use Rattle.omf_image.specs.Limits.{profile_limits}
use Rattle.omf_check.specs.WellFormed.{IsAccepted}
use Rattle.omf_records.specs.Location.{row_of}

abbrev pub map_ok : {A B : Type 0} → (A → B) → Result A Cause → Result B Cause
map_ok f r = result_map_both f (λ c. c) r

-- the first offset, or this cause if there is none
abbrev pub first_or : Cause → List ℕ → Result ℕ Cause
first_or c os = ok_or (slice_get os 0) c

-- with the frame and the target's address, or with cause Target
abbrev pub if_named : {A : Type 0} → (Frame → ℕ → Result A Cause) → Option (Frame × Placed) → Result A Cause
if_named f found = option_map_or (λ x. f x.0 x.1.address) found (Err cause.Target)

-- whether a segment has this place: its address, its frame's base and its selector
abbrev pub lies_at : Option Placed → Placed → Bool
lies_at place q = option_map_or (λ p. (p.address == q.address) && (p.frame.base == q.frame.base) && (p.frame.selector == q.frame.selector)) place false

-- why each fixup of a data record does not reach
abbrev pub causes_at : Places → Option DataItem → List Piece → List (Option Cause)
causes_at pl found after = option_map_or (λ d. map (λ f. result_err (outcome pl d f)) (fixups_of_data after)) found []

-- an addition to a part of this size
abbrev pub addition : ℕ → ℕ → ℕ → Addition
addition offset n value = record { offset = offset; size = n; value = value }

abbrev pub additions : ℕ → ℕ → ℕ → List Addition
additions t offset selector = additions_at (type_of_number t) offset selector

-- The selector and the offset of a start in this frame: its offset and its displacement have 16 bits in 8AH and 32 bits in 8BH. The frame
-- of a start is not F4, so no data record matters.
abbrev pub start_in : ℕ → ℕ → Frame → ℕ → Result (ℕ × ℕ) Cause
start_in bits u frame address = map_ok (λ o. (frame.selector, o)) (first_or cause.Target (offsets bits bits address u frame.base))

-- Where the location of a fixup begins in the data.
abbrev pub location_start : ℕ × PlainFixup → ℕ
location_start f = location_offset f.1.locat

abbrev pub AreElsewhere : ℕ → List (ℕ × PlainFixup) → Type 0
AreElsewhere x fixups = All (λ f. (x < location_start f) ⊎ (location_offset f.1.locat + (row_of (location_type f.1.locat)).size ≤ x)) fixups

-- Each part that a fixup adds to is inside the data.
abbrev pub PartsLieIn : ℕ → ℕ → List Addition → Type 0
PartsLieIn size start parts = All (λ a. start + a.offset + a.size ≤ size) parts

abbrev pub plain_fixups : List Subrecord → List (At Subrecord) → List PlainFixup
plain_fixups earlier subs = with_before plain_fixup earlier (map (λ s. s.item) subs)

abbrev pub extra : Kind → ℕ → ℕ → List ReachFault
extra k n have = if nat_lt n have then fault.Extra k (n + 1) ∷ [] else []

-- A table of n entries against a list of the placement: the first index without an entry, and the first entry without an index.
abbrev pub missing : Kind → ℕ → ℕ → List ReachFault
missing k n have = if nat_lt have n then fault.Missing k (have + 1) ∷ [] else []

-- the fault of a reference at its place, if it does not reach
abbrev pub far_fault : (ℕ × ℕ) × Option Cause → Option ReachFault
far_fault p = option_map (λ c. fault.TooFar p.0.0 p.0.1 c) p.1

-- All faults of reach, in the order in which they are reported.
abbrev pub reach_faults : Places → List Rec → List ReachFault
reach_faults pl m = misfits pl m ++ far_faults pl m

-- The input begins with a well-formed module of these records.
abbrev pub BeginsWith : Profile → List ℕ → List Raw → Type 0
BeginsWith profile input records = IsAccepted profile profile_limits input records

-- The number of entries of the placement of a kind.
abbrev pub given : Places → Kind → ℕ
given pl kinds.Segment = length pl.segments
given pl kinds.Group = length pl.groups
given pl kinds.External = length pl.externals

abbrev pub all_kinds : List Kind
all_kinds = kinds.Segment ∷ kinds.Group ∷ kinds.External ∷ []
