-- Sessions, as callers see them, and their calls.
use Rattle.std.specs.Prelude.{◌≡◌, ◌≢◌, ◌⊎◌, ◌≤◌, ◌<◌, ◌^◌, IsTrue, ℕ, slice_index, Bool, true, false, not, ◌&&◌, ◌||◌, is_some, min, if◌then◌else◌, List, [], ◌++◌, length, take, drop, Option, Some, None, Result, Ok, Err, slice_get}
use Rattle.omf_frame.specs.Framer.{begins_record}
use Rattle.omf_frame.specs.Framing.{Raw, is_taken, is_whole, present, wanted, record_len}
use Rattle.omf_frame.specs.declared.fault.Place.{Place}
use Rattle.omf_frame.specs.declared.fault.Reason.{Reason}
use Rattle.omf_image.specs.Limits.{profile_limits}
use Rattle.omf_check.specs.Module.{Module}
use Rattle.omf_check.specs.Refusal.{IsRefused, EndsWhereJudged, AreSoundSoFar}
use Rattle.omf_check.specs.WellFormed.{IsWellFormed, IsAccepted}
use Rattle.omf_check.specs.declared.fault.CheckFault.{CheckFault}
use Rattle.omf_check.specs.declared.fault.CheckFault.TheVariants.{Memory, Read, Refused}
use Rattle.omf_check.specs.declared.profile.Profile.{Profile}

-- The profile, all bytes taken before a fault, those of them that belong to the current record, whether the module is complete, and
-- the kept fault.
pub record Seen : Type 0 where
  pub profile : Profile
  pub taken : List ℕ
  pub at_hand : List ℕ
  pub ended : Bool
  pub fault : Option CheckFault

-- A new session.
abbrev pub at_start : Profile → Seen
at_start profile = record { profile = profile; taken = []; at_hand = []; ended = false; fault = None }

-- The number of bytes it can take before its next decision; 0 after the end or after a fault.
abbrev pub want_of : Seen → ℕ
want_of s = if s.ended || is_some s.fault then 0 else wanted s.at_hand

-- The same if `ahead` are the next bytes: after the first record, from a type byte without fault on, the length of the whole record.
abbrev pub want_with : Seen → List ℕ → ℕ
want_with s ahead = if is_some (slice_get s.taken 0) && (begins_record s.at_hand ahead && not (s.ended || is_some s.fault)) then record_len ahead else want_of s

-- The bytes of the current record after a piece has arrived, up to the record's end.
abbrev pub next_bytes : Seen → List ℕ → List ℕ
next_bytes s piece = if s.ended then [] else present (s.at_hand ++ piece)

-- A session without a fault: the bytes taken have no refusal other than for ending too early; and they are a module exactly if the
-- session has ended.
pub record IsOpen (s : Seen) : Type 0 where
  pub sound : AreSoundSoFar s.profile profile_limits s.taken
  pub ended : s.ended ≡ true → (records : List Raw) × IsWellFormed s.profile profile_limits s.taken records
  pub running : s.ended ≡ false → (records : List Raw) → IsAccepted s.profile profile_limits s.taken records → ⊥
  pub bounded : length s.taken < 2 ^ 37
  pub wants : s.ended ≡ false → 0 < wanted s.at_hand

-- A feed that succeeds takes the bytes that the current record still lacks, or the whole piece if that is shorter; a record that is
-- now complete is accepted.
pub record Takes (old : Seen) (piece : List ℕ) (count : ℕ) (whole : Bool) (new : Seen) : Type 0 where
  pub no_fault : old.fault ≡ None
  pub bound : count ≤ length piece
  pub all_wanted : min (want_of old) (length piece) ≤ count
  pub grown : next_bytes old piece ≡ old.at_hand ++ take count piece
  pub taken : new.taken ≡ old.taken ++ take count piece
  pub at_hand : new.at_hand ≡ (if whole then [] else next_bytes old piece)
  pub whole_is : whole ≡ is_whole (next_bytes old piece)
  pub profile : new.profile ≡ old.profile
  pub fault : new.fault ≡ None
  pub is_open : IsOpen new

-- The current record is refused: the bytes taken and the first `count` of the piece, no more than the refusal needs, are refused for
-- this reason at this place whatever follows. If the record's type is good, these are all its bytes that are present.
pub record RefusesHere (old : Seen) (piece : List ℕ) (why : Reason) (at : Place) : Type 0 where
  pub count : ℕ
  pub of_it : drop at.start (old.taken ++ take count piece) ≡ old.at_hand ++ take count piece
  pub whole : IsTrue (is_taken (slice_index (next_bytes old piece) 0)) → next_bytes old piece ≡ old.at_hand ++ take count piece
  pub judged : EndsWhereJudged why (old.at_hand ++ take count piece)
  pub refused : (more : List ℕ) → IsRefused old.profile profile_limits ((old.taken ++ take count piece) ++ more) why at

-- Memory ran out while the current record was taken, and the bytes taken, with the first `count` of the piece, have no refusal other
-- than for ending too early: up to the end of the record or of the piece; or one byte at the very start, where room for the record is made.
pub record LacksMemory (old : Seen) (piece : List ℕ) : Type 0 where
  pub count : ℕ
  pub needed : length old.at_hand < length (next_bytes old piece)
  pub judged : (next_bytes old piece ≡ old.at_hand ++ take count piece) ⊎ ((old.taken ≡ []) × (old.at_hand ≡ []) × (count ≡ 1))
  pub sound : AreSoundSoFar old.profile profile_limits (old.taken ++ take count piece)

-- The cause of each fault of a feed.
abbrev pub IsCause : Seen → List ℕ → CheckFault → Type 0
IsCause old piece Memory = LacksMemory old piece
IsCause old piece Read = ⊥
IsCause old piece (Refused why at) = RefusesHere old piece why at

-- A feed that fails keeps its fault, which every later call returns; the fault is never Read.
pub record FailsAs (old : Seen) (piece : List ℕ) (fault : CheckFault) (new : Seen) : Type 0 where
  pub not_read : fault ≢ Read
  pub not_ended : old.ended ≡ false
  pub new_is : new ≡ record old { at_hand = []; fault = Some fault }
  pub cause : (old.fault ≡ Some fault) ⊎ ((old.fault ≡ None) × IsCause old piece fault)

-- The result at the end of the input: the kept fault; or the module if it is complete; or the refusal of the bytes taken.
abbrev pub IsEndFault : Seen → CheckFault → Type 0
IsEndFault s (Refused why at) = IsRefused s.profile profile_limits s.taken why at
IsEndFault s _ = ⊥

abbrev pub Finishes : Seen → Result Module CheckFault → Type 0
Finishes s (Ok m) = (s.fault ≡ None) × (s.ended ≡ true) × (m ≡ record { bytes = s.taken; profile = s.profile })
Finishes s (Err fault) = (fault ≢ Read) × ((s.fault ≡ Some fault) ⊎ ((s.fault ≡ None) × (s.ended ≡ false) × IsEndFault s fault))
