-- Whole runs of a framer: it is fed, and shows and passes each record as soon as the record is complete.
use Rattle.std.specs.Prelude.{◌≡◌, ◌⊎◌, ◌<◌, ℕ, Bool, true, false, not, ◌||◌, ◌==◌, is_some, if◌then◌else◌, List, [], ◌∷◌, ◌++◌, length, take, All, flat_map, IsTrue, slice_index_or, Option, Some, None}
use Rattle.omf_frame.specs.declared.fault.Reason.{Reason}
use Rattle.omf_frame.specs.declared.fault.Place.{Place}
use Rattle.omf_frame.specs.declared.fault.FrameFault.TheVariants.{Refused}
use Rattle.omf_frame.specs.Fault.{Fault}
use Rattle.omf_frame.specs.Framing.{Raw, raw_bytes, IsRecord, IsFramed, is_end, is_whole, present, front_record, frame_fault, standing_fault}
use Rattle.omf_frame.specs.Framer.{Held, at_start, refused, stands, passed, Takes, FailsAs}

-- The records shown so far, and the state.
pub record Run : Type 0 where
  pub shown : List Raw
  pub held : Held

-- The start of a run.
abbrev pub before_all : Run
before_all = record { shown = []; held = at_start }

-- A complete record is shown and passed.
abbrev pub settled : Run → Run
settled run = if stands run.held then record { shown = run.shown ++ front_record run.held.bytes ∷ []; held = passed run.held } else run

-- The state with these bytes of the record at hand: its fault is kept, if it has one.
abbrev pub judged : Held → List ℕ → Option Fault → Held
judged held bytes None = record held { bytes = bytes }
judged held bytes (Some f) = record held { bytes = []; fault = Some (refused held f) }

-- One more byte. None is taken after a fault or after MODEND.
abbrev pub with_byte : Held → ℕ → Held
with_byte held b =
    if is_some held.fault || held.ended then held
    else judged held (held.bytes ++ b ∷ []) (standing_fault (held.number == 0) (held.bytes ++ b ∷ []))

-- All of these bytes.
abbrev pub run_over : Run → List ℕ → Run
run_over run [] = run
run_over run (b ∷ bytes) = run_over (settled (record run { held = with_byte run.held b })) bytes

-- Each list of bytes is what one feed took or was refused for; a complete record is shown and passed at once.
abbrev pub IsFed : Run → List (List ℕ) → Run → Type 0
IsFed run [] end = run ≡ end
IsFed run (bytes ∷ more) end =
    ((piece : List ℕ) × (taken : ℕ) × (whole : Bool) × (new : Held) × (bytes ≡ take taken piece) × Takes run.held piece taken whole new × IsFed (settled (record run { held = new })) more end)
    ⊎ ((why : Reason) × (place : Place) × (new : Held) × FailsAs run.held bytes (Refused why place) new × IsFed (record run { held = new }) more end)

-- The record at hand is not complete, and has no permanent fault.
pub record IsOpen (held : Held) : Type 0 where
  pub not_whole : is_whole held.bytes ≡ false
  pub sound : standing_fault (held.number == 0) held.bytes ≡ None

-- Each is a record without a framing fault.
abbrev pub AreSound : List Raw → Type 0
AreSound records = (k : ℕ) (d : Raw) → k < length records → IsRecord (slice_index_or records k d) × (frame_fault (k == 0) (raw_bytes (slice_index_or records k d)) ≡ None)

-- None is a MODEND.
abbrev pub HasNoEnd : List Raw → Type 0
HasNoEnd records = All (λ r. IsTrue (not (is_end r.kind))) records

-- The input ends inside the record after these, or before it: its bytes are at hand, and have no permanent fault.
pub record GoesOn (records : List Raw) (rest : List ℕ) (held : Held) : Type 0 where
  pub not_ended : held.ended ≡ false
  pub no_fault : held.fault ≡ None
  pub at_hand : held.bytes ≡ rest
  pub no_end : HasNoEnd records
  pub not_whole : is_whole rest ≡ false
  pub sound : standing_fault (length records == 0) rest ≡ None

-- The record after these is refused, and its fault is kept.
pub record IsStopped (records : List Raw) (rest : List ℕ) (held : Held) : Type 0 where
  pub not_ended : held.ended ≡ false
  pub no_end : HasNoEnd records
  pub fault : Fault
  pub why : frame_fault (length records == 0) (present rest) ≡ Some fault
  pub lasts : standing_fault (length records == 0) (present rest) ≡ Some fault
  pub kept : held.fault ≡ Some (refused held fault)

-- The records are a module, from header to MODEND.
pub record HasEnded (records : List Raw) (held : Held) : Type 0 where
  pub ended : held.ended ≡ true
  pub no_fault : held.fault ≡ None
  pub at_hand : held.bytes ≡ []
  pub framed : IsFramed (flat_map raw_bytes records) records

-- The records shown are the first of the input, and the state agrees with the rest of it.
pub record IsFramingOf (input : List ℕ) (run : Run) : Type 0 where
  pub rest : List ℕ
  pub spelled : input ≡ flat_map raw_bytes run.shown ++ rest
  pub sound : AreSound run.shown
  pub number : run.held.number ≡ length run.shown
  pub start : run.held.start ≡ length (flat_map raw_bytes run.shown)
  pub state : GoesOn run.shown rest run.held ⊎ (IsStopped run.shown rest run.held ⊎ HasEnded run.shown run.held)
