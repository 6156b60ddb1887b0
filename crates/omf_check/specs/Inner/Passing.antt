-- The invariant of a session, by its parts, and its steps.
use Rattle.std.specs.Prelude.{◌≡◌, ◌≢◌, ◌≤◌, IsTrue, ℕ, Bool, true, false, not, ◌==◌, min, if◌then◌else◌, List, [], ◌∷◌, ◌++◌, length, take, flat_map, All, Option, Some, None, option_map}
use Rattle.omf_frame.specs.Bytes.{AreBytes}
use Rattle.omf_frame.specs.Fault.{Fault}
use Rattle.omf_frame.specs.Framer.{Held}
use Rattle.omf_frame.specs.Framer.{next_bytes as next_of, want_of as framer_want}
use Rattle.omf_frame.specs.declared.fault.FrameFault.{FrameFault}
use Rattle.omf_frame.specs.declared.fault.FrameFault.TheVariants as frame
use Rattle.omf_frame.specs.Framing.{Raw, raw_bytes, IsRecord, is_end, is_whole, standing_fault}
use Rattle.omf_image.specs.Limits.{profile_limits}
use Rattle.omf_check.specs.Inner.Kept.{Kept, Tells, IsBounded}
use Rattle.omf_check.specs.Inner.Points.{PointsTo}
use Rattle.omf_check.specs.Inner.Faults.{faults_after}
use Rattle.omf_check.specs.WellFormed.{IsWellFormed, recs}
use Rattle.omf_check.specs.declared.fault.CheckFault.{CheckFault}
use Rattle.omf_check.specs.declared.fault.CheckFault.TheVariants.{Memory, Read, Refused}
use Rattle.omf_check.specs.declared.profile.Profile.{Profile}
use Rattle.omf_check.specs.Session.{Seen, IsCause}

-- The refusal of the record with this number and start for a fault.
abbrev pub refused_at : ℕ → ℕ → Fault → CheckFault
refused_at number start f = Refused f.reason (record { number = number; start = start; within = f.within })

-- The fault for a record whose first fault is `found`: its refusal, or Memory if it has none.
abbrev pub IsStopped : Option Fault → ℕ → ℕ → CheckFault → Type 0
IsStopped found number start Memory = found ≡ None
IsStopped found number start Read = ⊥
IsStopped found number start (Refused why at) = option_map (refused_at number start) found ≡ Some (Refused why at)

-- The records accepted so far, and the bytes of the current record.
pub record IsPassing (profile : Profile) (held : Held) (taken : List ℕ) (kept : Kept) : Type 0 where
  pub before : List Raw
  pub spelled : taken ≡ flat_map raw_bytes before ++ held.bytes
  pub records : All IsRecord before
  pub small : AreBytes taken
  pub sound : (earlier later : List Raw) (r : Raw) → before ≡ earlier ++ r ∷ later → faults_after profile profile_limits earlier (raw_bytes r) ≡ []
  pub number : held.number ≡ length before
  pub start : held.start ≡ length (flat_map raw_bytes before)
  pub no_fault : held.fault ≡ None
  pub partial : is_whole held.bytes ≡ false
  pub standing : standing_fault (held.number == 0) held.bytes ≡ None
  pub running : held.ended ≡ false → All (λ r. IsTrue (not (is_end r.kind))) before
  pub at_end : held.ended ≡ true → (held.bytes ≡ []) × IsWellFormed profile profile_limits taken before
  pub tells : Tells kept (recs before)
  pub points : PointsTo (flat_map raw_bytes before) kept (recs before)
  pub bounded : IsBounded kept
  pub short : length held.bytes ≤ 65538

-- The invariant of a session, by its parts.
abbrev pub IsState : Profile → Held → List ℕ → Kept → Option CheckFault → Type 0
IsState profile held taken kept None = IsPassing profile held taken kept
IsState profile held taken kept (Some fault) = (held.ended ≡ false) × (fault ≢ Read)

-- A step of a session, by its framer and the bytes taken: it takes the bytes that the current record still lacks, or the whole piece,
-- and accepts a record that is now complete.
pub record Moves (old : Held) (bytes piece : List ℕ) (count : ℕ) (whole : Bool) (new : Held) (now : List ℕ) : Type 0 where
  pub bound : count ≤ length piece
  pub all_wanted : min (framer_want old) (length piece) ≤ count
  pub grown : next_of old piece ≡ old.bytes ++ take count piece
  pub taken : now ≡ bytes ++ take count piece
  pub at_hand : new.bytes ≡ (if whole then [] else next_of old piece)
  pub whole_is : whole ≡ is_whole (next_of old piece)

-- The cause of a step's fault, which is that of a feed.
abbrev pub here : Profile → Held → List ℕ → Seen
here profile held taken = record { profile = profile; taken = taken; at_hand = held.bytes; ended = held.ended; fault = None }

abbrev pub Fails : Profile → Held → List ℕ → List ℕ → CheckFault → Type 0
Fails profile held taken piece fault = IsCause (here profile held taken) piece fault

-- A framing fault as a fault of a check.
abbrev pub framing_fault : FrameFault → CheckFault
framing_fault frame.Memory = Memory
framing_fault (frame.Refused why at) = Refused why at
