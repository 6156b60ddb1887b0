-- How a program answers its arguments: it runs the task that they ask for, prints its usage, or runs out of memory.
use Rattle.std.specs.Prelude.{◌≡◌, ◌⊎◌, ℕ, Bool, not, ◌==◌, ◌&&◌, if◌then◌else◌, List, [], ◌∷◌, ◌++◌, Option, Some, None, Result, Ok, Err, codes}
use Rattle.std.specs.Io.KnownBytes.{Keeps}
use Rattle.omf_frame.specs.Device.{Device}
use Rattle.omf_cmd.specs.Runs.{IsWritten}

-- What a program reports of a fault: the exit status, and the text that is printed.
pub record FaultReport : Type 0 where
  pub status : ℕ
  pub text : List ℕ

-- How a program ends after a run: with status 0, or with that of the fault, whose text is printed.
abbrev pub Ends : {F : Type 0} → (F → FaultReport) → Device → Device → Result (Unit {0}) F → ℕ → Type 0
Ends report old new (Ok done) status = (status ≡ 0) × (new ≡ old)
Ends report old new (Err f) status = (status ≡ (report f).status) × IsWritten old new (report f).text

-- A run of a task, and the end after it. `between` is the writer after the run.
pub record RunsAndEnds {F : Type 0} (performs : Device → Device → Device → Device → Result (Unit {0}) F → Type 0) (report : F → FaultReport) (reader reader' writer writer' : Device) (status : ℕ) : Type 0 where
  pub ran : Result (Unit {0}) F
  pub between : Device
  pub run : performs reader reader' writer between ran
  pub ended : Ends report between writer' ran status

-- The arguments are not understood: the usage is written, with status 2. Nothing is read.
abbrev pub PrintsUsage : List ℕ → Device → Device → Device → Device → ℕ → Type 0
PrintsUsage usage reader reader' writer writer' status = (reader' ≡ reader) × (status ≡ 2) × IsWritten writer writer' usage

-- What a program does once its arguments are read: it runs the task found in them, or prints its usage.
abbrev pub Acts : {T F : Type 0} → (T → Device → Device → Device → Device → Result (Unit {0}) F → Type 0) → (F → FaultReport) → List ℕ → Option T → Device → Device → Device → Device → ℕ → Type 0
Acts performs report usage (Some task) reader reader' writer writer' status = RunsAndEnds (performs task) report reader reader' writer writer' status
Acts performs report usage None reader reader' writer writer' status = PrintsUsage usage reader reader' writer writer' status

-- Memory ran out before the arguments were read: "memory" is written, with status 3. Nothing is read.
abbrev pub IsOutOfMemory : Device → Device → Device → Device → ℕ → Type 0
IsOutOfMemory reader reader' writer writer' status = (reader' ≡ reader) × (status ≡ 3) × IsWritten writer writer' (codes "memory" ++ 10 ∷ [])

-- A program's answer to its arguments. `asks` relates these to the task found in them; None: they are not understood.
abbrev pub ProgramAnswers : {T F : Type 0} → (List (List ℕ) → Option T → Type 0) → (T → Device → Device → Device → Device → Result (Unit {0}) F → Type 0) → (F → FaultReport) → List ℕ → List (List ℕ) → Device → Device → Device → Device → ℕ → Type 0
ProgramAnswers asks performs report usage arguments reader reader' writer writer' status =
    ((found : Option _) × asks arguments found × Acts performs report usage found reader reader' writer writer' status) ⊎ IsOutOfMemory reader reader' writer writer' status

-- The answer to arguments that are not understood: the usage, with status 2, or out of memory. Nothing is read.
abbrev pub Misuses : List ℕ → Device → Device → Device → Device → ℕ → Type 0
Misuses usage reader reader' writer writer' status = ((reader' ≡ reader) × (status ≡ 2) × IsWritten writer writer' usage) ⊎ IsOutOfMemory reader reader' writer writer' status

-- The exit status after the output was flushed, or could not be: 3 if the program was done but the flush failed.
abbrev pub status_after : ℕ → Bool → ℕ
status_after ended flushed = if ended == 0 && not flushed then 3 else ended

-- A run whose output is flushed at its end. `between` is the writer before the flush, and `ended` the program's own status.
pub record EndsFlushed (answers : Device → ℕ → Type 0) (writer' : Device) (flushed : Bool) (status : ℕ) : Type 0 where
  pub between : Device
  pub ended : ℕ
  pub answer : answers between ended
  pub kept : Keeps between.bytes writer'.bytes
  pub is : status ≡ status_after ended flushed

-- A program ran with this output, on some arguments and a reader, and the output was flushed at its end.
abbrev pub HasRunOn : (List (List ℕ) → Device → Device → Device → Device → ℕ → Type 0) → Device → Device → Bool → ℕ → Type 0
HasRunOn answers writer writer' flushed status =
    (arguments : List (List ℕ)) × (reader : Device) × (reader' : Device) × EndsFlushed (answers arguments reader reader' writer) writer' flushed status

-- A program ran so on some output, and ended with this status.
abbrev pub HasRun : (List (List ℕ) → Device → Device → Device → Device → ℕ → Type 0) → ℕ → Type 0
HasRun answers status = (writer : Device) × (writer' : Device) × (flushed : Bool) × HasRunOn answers writer writer' flushed status

-- Bytes in memory as a device. Its only failures are refused growths, each of which is a break.
abbrev pub in_memory : ℕ → List ℕ → Device
in_memory refusals bytes = record { bytes = Some bytes; failures = refusals; breaks = refusals }

-- A program's answer over an input in memory: it read a front of the input and wrote this text. The input never failed; the text failed only
-- where memory for it was refused.
abbrev pub AnswersInMemory : (List (List ℕ) → Device → Device → Device → Device → ℕ → Type 0) → List (List ℕ) → List ℕ → ℕ → List ℕ → Type 0
AnswersInMemory answers arguments input status text =
    (left : List ℕ) × (refusals : ℕ) × answers arguments (in_memory 0 input) (in_memory 0 left) (in_memory 0 []) (in_memory refusals text) status
