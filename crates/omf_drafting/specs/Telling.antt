-- A run whose text goes on the output, and whose fault goes on the standard error (this profile's rule).
use Rattle.std.specs.Prelude.{◌≡◌, ℕ, List, Result, Ok, Err}
use Rattle.omf_frame.specs.Device.{Device}
use Rattle.omf_cmd.specs.Programs.{FaultReport}
use Rattle.omf_host.specs.Ending.{exit_code}
use Rattle.omf_host.specs.Streams.{IsTold}
use Rattle.omf_host.specs.declared.ending.Status.{Status}
use Rattle.omf_host.specs.declared.ending.Status.TheVariants as status

-- What is on the standard error after a run: nothing if it is done; the lines of a fault, each after the program's name.
abbrev pub TellsOf : {F : Type 0} → (F → FaultReport) → List ℕ → Device → Device → Result (Unit {0}) F → Status → Type 0
TellsOf report name old new (Ok done) s = (s ≡ status.Done) × (new ≡ old)
TellsOf report name old new (Err f) s = (exit_code s ≡ (report f).status) × IsTold name (report f).text old new

-- A run of a task, and what is on the standard error after it. The run alone writes on the output.
pub record RunsAndTells {F : Type 0} (performs : Device → Device → Device → Device → Result (Unit {0}) F → Type 0) (report : F → FaultReport) (name : List ℕ) (reader reader' output output' errors errors' : Device) (s : Status) : Type 0 where
  pub ran : Result (Unit {0}) F
  pub run : performs reader reader' output output' ran
  pub told : TellsOf report name errors errors' ran s
