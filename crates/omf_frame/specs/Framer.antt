-- The state of a framer, and the effect of its calls.
use Rattle.std.specs.Option.{option_map_or}
use Rattle.std.specs.Prelude.{◌≡◌, ◌⊎◌, ◌≤◌, ◌<◌, ℕ, ◌+◌, Bool, false, not, ◌&&◌, ◌||◌, ◌==◌, is_some, is_none, min, if◌then◌else◌, List, [], ◌∷◌, ◌++◌, length, take, slice_index, Option, Some, None, option_map, Result, Ok, Err, slice_get}
use Rattle.omf_frame.specs.declared.fault.FrameFault.{FrameFault}
use Rattle.omf_frame.specs.declared.fault.FrameFault.TheVariants.{Memory, Refused}
use Rattle.omf_frame.specs.Fault.{Fault}
use Rattle.omf_frame.specs.Framing.{present, is_whole, is_taken, wanted, is_end, type_faults, frame_fault, standing_fault, record_len}

-- The bytes taken of the record at hand, its number and its offset in the input, whether MODEND was passed, and a permanent fault.
pub record Held : Type 0 where
  pub bytes : List ℕ
  pub number : ℕ
  pub start : ℕ
  pub ended : Bool
  pub fault : Option FrameFault

-- The largest size of a record in bytes.
abbrev pub longest_record : ℕ
longest_record = 65538

-- A framer: its state, and the number of bytes that its buffer has room for.
pub record Buffer : Type 0 where
  pub held : Held
  pub room : ℕ

-- The start of an input.
abbrev pub at_start : Held
at_start = record { bytes = []; number = 0; start = 0; ended = false; fault = None }

-- Some bytes of a record were taken.
abbrev pub open_at : List ℕ → ℕ → ℕ → Held
open_at bytes number start = record { bytes = bytes; number = number; start = start; ended = false; fault = None }

-- The bytes of the record at hand after a piece.
abbrev pub next_bytes : Held → List ℕ → List ℕ
next_bytes held piece = if held.ended then [] else present (held.bytes ++ piece)

-- The record at hand is complete.
abbrev pub stands : Held → Bool
stands held = is_none held.fault && is_whole held.bytes

-- The number of bytes up to the next check.
abbrev pub want_of : Held → ℕ
want_of held = if held.ended || is_some held.fault then 0 else wanted held.bytes

-- No byte of a record is at hand, and the next bytes begin with a supported type byte.
abbrev pub begins_record : List ℕ → List ℕ → Bool
begins_record [] (t ∷ ahead) = is_taken t
begins_record _ _ = false

-- Like `want_of`, with a look at the next bytes: at the start of a record of a supported type, the size of the record.
abbrev pub want_with : Held → List ℕ → ℕ
want_with held ahead = if begins_record held.bytes ahead && not (held.ended || is_some held.fault) then record_len ahead else want_of held

-- A fault of the record at hand, with its place in the input.
abbrev pub refused : Held → Fault → FrameFault
refused held f = Refused f.reason (record { number = held.number; start = held.start; within = f.within })

-- A successful feed takes the missing bytes of the record, or the whole piece if it is shorter. The record has no permanent fault.
pub record Takes (old : Held) (piece : List ℕ) (taken : ℕ) (whole : Bool) (new : Held) : Type 0 where
  pub no_fault : old.fault ≡ None
  pub new_is : new ≡ record old { bytes = next_bytes old piece }
  pub grown : next_bytes old piece ≡ old.bytes ++ take taken piece
  pub taken_is : taken + length old.bytes ≡ length (next_bytes old piece)
  pub bound : taken ≤ length piece
  pub all_wanted : min (want_of old) (length piece) ≤ taken
  pub whole_is : whole ≡ stands new
  pub sound : standing_fault (old.number == 0) (next_bytes old piece) ≡ None

-- Why a feed fails: out of memory, which only the first byte of the first record can give, if its type has no fault; or the
-- permanent fault of the record. Out of memory also asks that there was no room (`LacksRoom`).
abbrev pub IsCause : Held → List ℕ → FrameFault → Type 0
IsCause old piece Memory =
    (old.number ≡ 0) × (old.bytes ≡ []) × (0 < length (next_bytes old piece)) × (type_faults (slice_index (next_bytes old piece) 0) ≡ [])
IsCause old piece (Refused reason place) = option_map (refused old) (standing_fault (old.number == 0) (next_bytes old piece)) ≡ Some (Refused reason place)

-- Out of memory is answered only by a framer without room for the longest record.
abbrev pub LacksRoom : Buffer → FrameFault → Type 0
LacksRoom buffer Memory = buffer.room < longest_record
LacksRoom buffer (Refused reason place) = Unit {0}

-- A feed that fails drops the bytes at hand and keeps its fault, which later feeds return.
pub record FailsAs (old : Held) (piece : List ℕ) (fault : FrameFault) (new : Held) : Type 0 where
  pub not_ended : old.ended ≡ false
  pub new_is : new ≡ record old { bytes = []; fault = Some fault }
  pub cause : ((old.fault ≡ Some fault) × (new ≡ old)) ⊎ ((old.fault ≡ None) × IsCause old piece fault)

-- The framer with these bytes of the record at hand.
abbrev pub with_bytes : Held → List ℕ → Held
with_bytes held bytes = record held { bytes = bytes }

-- The framer is between two records: it has passed one, holds no byte of the next, and has neither ended nor failed.
pub record IsBetween (held : Held) : Type 0 where
  pub later : 0 < held.number
  pub none : held.bytes ≡ []
  pub running : held.ended ≡ false
  pub no_fault : held.fault ≡ None

-- The same, as a test; and the next bytes begin with a complete record that has no framing fault.
abbrev pub shows_record : Held → List ℕ → Bool
shows_record held ahead =
    (is_none held.fault && (not (held.number == 0) && (not held.ended && is_none (slice_get held.bytes 0)))) && is_none (frame_fault (held.number == 0) (present ahead))

-- The state after the complete record.
abbrev pub passed : Held → Held
passed held = record at_start { number = held.number + 1; start = held.start + length held.bytes; ended = is_end (slice_index held.bytes 0) }

-- The result at the end of the input: the permanent fault; Ok after MODEND; else the framing fault of the bytes at hand.
abbrev pub stop_of : Held → Result (Unit {0}) FrameFault
stop_of held = option_map_or (λ fault. Err fault) held.fault
    (if held.ended then Ok tt else option_map_or (λ f. Err (refused held f)) (frame_fault (held.number == 0) held.bytes) (Ok tt))
