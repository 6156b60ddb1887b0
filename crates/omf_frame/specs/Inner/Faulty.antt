-- The behavior of the devices for tests.
use Rattle.std.specs.Prelude.{◌≡◌, ℕ, ◌-◌, ◌++◌, min, List, [], ◌∷◌, length, take, drop, replicate, Bool, true, false, ◌==◌, ◌&&◌, nat_lt, if◌then◌else◌, Option, Some, None, Result, Ok, Err}
use Rattle.std.specs.IoError.{error_kind}
use Rattle.std.specs.declared.io.Error.{Error}
use Rattle.std.specs.declared.io.ErrorKind.{ErrorKind}
use Rattle.std.specs.declared.io.ErrorKind.TheVariants.{Interrupted, Other}
use Rattle.omf_frame.specs.declared.faulty.Then.{Then}
use Rattle.omf_frame.specs.declared.faulty.Then.TheVariants.{Ends, Fails, Repeats}
use Rattle.omf_frame.specs.declared.faulty.Full.{Full}
use Rattle.omf_frame.specs.declared.faulty.Full.TheVariants as full
use Rattle.omf_frame.specs.Device.{Device, counted}

-- The state of a script: the remaining bytes, and what comes after them; the largest piece; the number of interruptions before each
-- other answer, and how many of them are still due; the number of other answers before the one failure, if it is still to come; the
-- counts of failures and breaks.
pub record Scripted : Type 0 where
  pub bytes : List ℕ
  pub after : Then
  pub piece : ℕ
  pub interruptions : ℕ
  pub due : ℕ
  pub fails_in : Option ℕ
  pub failures : ℕ
  pub breaks : ℕ

-- The state of a taker: the bytes taken, the remaining room, and what comes when there is none; then as above.
pub record Taking : Type 0 where
  pub held : List ℕ
  pub room : ℕ
  pub full : Full
  pub piece : ℕ
  pub interruptions : ℕ
  pub due : ℕ
  pub fails_in : Option ℕ
  pub failures : ℕ
  pub breaks : ℕ

-- the answer of a device to one call
pub data Answer : Type 0 where
  Passes : List ℕ → Answer
  Interrupts : Answer
  Refuses : Answer

-- the remaining bytes of a script, if there is an end to them
abbrev pub told : Then → List ℕ → Option (List ℕ)
told Ends bytes = Some bytes
told Fails bytes = Some bytes
told (Repeats b) bytes = None

-- the answer of a script to a pull of at most n bytes
abbrev pub given : Then → ℕ → List ℕ → Answer
given after n (b ∷ bytes) = Passes (take n (b ∷ bytes))
given Ends n [] = Passes []
given Fails n [] = Refuses
given (Repeats b) n [] = Passes (replicate n b)

-- the answer, unless an interruption is due
abbrev pub unless_due : ℕ → Answer → Answer
unless_due due answer = if nat_lt 0 due then Interrupts else answer

-- the answer, unless the one failure is due
abbrev pub unless_failing : Option ℕ → Answer → Answer
unless_failing None answer = answer
unless_failing (Some n) answer = if n == 0 then Refuses else answer

-- the answer of a script to a pull
abbrev pub pulled : Scripted → ℕ → Answer
pulled s room = unless_due s.due (unless_failing s.fails_in (given s.after (min room s.piece) s.bytes))

abbrev pub is_break : Answer → Bool
is_break (Passes bytes) = false
is_break Interrupts = false
is_break Refuses = true

abbrev pub is_failure : Answer → Bool
is_failure (Passes bytes) = false
is_failure Interrupts = true
is_failure Refuses = true

-- the number of interruptions due after a call
abbrev pub next_due : ℕ → ℕ → ℕ
next_due due interruptions = if nat_lt 0 due then due - 1 else interruptions

-- the number of answers before the one failure, after an answer that is no interruption; None after the failure
abbrev pub one_fewer : Option ℕ → Option ℕ
one_fewer None = None
one_fewer (Some n) = if n == 0 then None else Some (n - 1)

abbrev pub next_failing : ℕ → Option ℕ → Option ℕ
next_failing due fails_in = if nat_lt 0 due then fails_in else one_fewer fails_in

-- the bytes of an answer
abbrev pub passed_on : Answer → List ℕ
passed_on (Passes bytes) = bytes
passed_on Interrupts = []
passed_on Refuses = []

-- the state after a pull
abbrev pub after_pull : Scripted → ℕ → Scripted
after_pull s room = record { bytes = drop (length (passed_on (pulled s room))) s.bytes; after = s.after; piece = s.piece; interruptions = s.interruptions; due = next_due s.due s.interruptions; fails_in = next_failing s.due s.fails_in; failures = counted (is_failure (pulled s room)) s.failures; breaks = counted (is_break (pulled s room)) s.breaks }

-- a script as a source
abbrev pub script_seen : Scripted → Device
script_seen s = record { bytes = told s.after s.bytes; failures = s.failures; breaks = s.breaks }

-- the answer of a full taker
abbrev pub refusal : Full → Answer
refusal full.Fails = Refuses
refusal full.TakesNone = Passes []

-- the answer of a taker: it takes the bytes that it has room for, at most a piece
abbrev pub taken : Full → ℕ → ℕ → List ℕ → Answer
taken after piece room [] = Passes []
taken after piece room (b ∷ bytes) = if nat_lt 0 room then Passes (take (min piece room) (b ∷ bytes)) else refusal after

-- the answer of a taker to a push
abbrev pub pushed : Taking → List ℕ → Answer
pushed t bytes = unless_due t.due (unless_failing t.fails_in (taken t.full t.piece t.room bytes))

-- a push also breaks if it takes 0 bytes of a nonempty slice
abbrev pub is_push_break : Answer → List ℕ → Bool
is_push_break (Passes front) bytes = length front == 0 && nat_lt 0 (length bytes)
is_push_break Interrupts bytes = false
is_push_break Refuses bytes = true

-- a push also fails if it takes 0 bytes of a nonempty slice
abbrev pub is_push_failure : Answer → List ℕ → Bool
is_push_failure (Passes front) bytes = length front == 0 && nat_lt 0 (length bytes)
is_push_failure Interrupts bytes = true
is_push_failure Refuses bytes = true

-- the state after a push
abbrev pub after_push : Taking → List ℕ → Taking
after_push t bytes = record { held = t.held ++ passed_on (pushed t bytes); room = t.room - length (passed_on (pushed t bytes)); full = t.full; piece = t.piece; interruptions = t.interruptions; due = next_due t.due t.interruptions; fails_in = next_failing t.due t.fails_in; failures = counted (is_push_failure (pushed t bytes) bytes) t.failures; breaks = counted (is_push_break (pushed t bytes) bytes) t.breaks }

-- a taker as a sink
abbrev pub taker_seen : Taking → Device
taker_seen t = record { bytes = Some t.held; failures = t.failures; breaks = t.breaks }

-- the one failure, if it is due
abbrev pub kind_once : Option ℕ → Option ErrorKind
kind_once None = None
kind_once (Some n) = if n == 0 then Some Other else None

-- the failure due at a call, if any
abbrev pub kind_due : ℕ → Option ℕ → Option ErrorKind
kind_due due fails_in = if nat_lt 0 due then Some Interrupted else kind_once fails_in

-- The result of a push is this answer.
abbrev pub IsPushed : Answer → Result ℕ Error → Type 0
IsPushed (Passes bytes) (Ok n) = n ≡ length bytes
IsPushed Interrupts (Err e) = error_kind e ≡ Interrupted
IsPushed Refuses (Err e) = error_kind e ≡ Other
IsPushed _ _ = ⊥

-- The result of a pull, and its bytes at the front of the buffer, are this answer.
abbrev pub IsPulled : Answer → Result ℕ Error → List ℕ → Type 0
IsPulled (Passes bytes) (Ok n) buf = (n ≡ length bytes) × (take n buf ≡ bytes)
IsPulled Interrupts (Err e) buf = error_kind e ≡ Interrupted
IsPulled Refuses (Err e) buf = error_kind e ≡ Other
IsPulled _ _ buf = ⊥
