-- A run of `omf-link`: its result, and what it reads and writes.
use Rattle.std.specs.Prelude.{◌≡◌, ℕ, List, Option, Some, Result, Err}
use Rattle.std.specs.Io.KnownBytes.{Consumes}
use Rattle.omf_frame.specs.Device.{Device}
use Rattle.omf_linking.specs.Reading.{IsPartRead}
use Rattle.omf_linking.specs.declared.fault.LinkFault.TheVariants as link
use Rattle.omf_cmd.specs.Runs.{HasGivenUp, IsUnbroken, PrintsOr}
use Rattle.omf_linker.specs.Link.Shown.{IsShownOf}
use Rattle.omf_lines.specs.declared.fault.ImageFault.{ImageFault}
use Rattle.omf_lines.specs.declared.fault.ImageFault.TheVariants as fault
use Rattle.omf_linker.specs.declared.link.words.Task.{Task}

-- The result of a task for an input that is read to its end.
abbrev pub IsWhole : Task → List ℕ → Option (List ℕ) → Option (List ℕ) → Result (List ℕ) ImageFault → Type 0
IsWhole t input old new r = Consumes old new input × IsShownOf t input r

-- The result of a task for an input, and how far it is read: to its end, or in part if memory ran out or the reader failed.
abbrev pub Shows : Task → List ℕ → Option (List ℕ) → Option (List ℕ) → Result (List ℕ) ImageFault → Type 0
Shows t input old new (Err (fault.Link link.Memory)) = IsPartRead old new
Shows t input old new (Err (fault.Link link.Read)) = IsPartRead old new
Shows t input old new r = IsWhole t input old new r

-- The fault names the reader if it failed; otherwise the reader did not break.
abbrev pub IsShowCause : Device → Device → Result (List ℕ) ImageFault → Type 0
IsShowCause old new (Err (fault.Link link.Read)) = HasGivenUp old new
IsShowCause old new (Err fault.Write) = ⊥
IsShowCause old new r = IsUnbroken old new

-- A run of a task: its result for the input, and what it wrote of that. A text is written whole, or in part if the writer failed. Nothing is written of a fault.
pub record IsRun (t : Task) (reader reader' writer writer' : Device) (ran : Result (Unit {0}) ImageFault) : Type 0 where
  pub shown : Result (List ℕ) ImageFault
  pub cause : IsShowCause reader reader' shown
  pub shows : (input : List ℕ) → reader.bytes ≡ Some input → Shows t input reader.bytes reader'.bytes shown
  pub printed : PrintsOr fault.Write writer writer' shown ran
