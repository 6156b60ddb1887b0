-- What `check`, `list` and `canon` answer for an input: each prints a text of the module that it begins with. How `omf` answers its arguments.
use Rattle.omf_check.specs.WellFormed.{recs}
use Rattle.omf_canon.specs.Canonical.{canonical}
use Rattle.std.specs.Prelude.{◌≡◌, ◌⊎◌, ⊤, IfErr, ℕ, Bool, List, [], Option, Some, None, Result, Ok, Err}
use Rattle.clap.specs.Words.{Text, fault_of, subcommand_of}
use Rattle.omf_frame.specs.Device.{Device}
use Rattle.omf_frame.specs.Framing.{Raw}
use Rattle.omf_image.specs.Limits.{profile_limits}
use Rattle.omf_check.specs.Checking.{IsUndecided}
use Rattle.omf_check.specs.Refusal.{IsRefused}
use Rattle.omf_check.specs.declared.fault.CheckFault.{CheckFault}
use Rattle.omf_check.specs.declared.fault.CheckFault.TheVariants as check
use Rattle.omf_check.specs.declared.profile.Profile.{Profile}
use Rattle.omf_cmd.specs.FaultLine.{fault_text}
use Rattle.omf_cmd.specs.HowFar.{EndsAtRefusal, IsReadFrom, IsUnrefused}
use Rattle.omf_cmd.specs.Listing.{check_text, list_text}
use Rattle.omf_cmd.specs.Relocating.{IsRelocation}
use Rattle.omf_cmd.specs.Programs.{FaultReport, IsOutOfMemory, Misuses, RunsAndEnds}
use Rattle.omf_cmd.specs.Runs.{IsCausedBy, Prints, PrintsInPieces}
use Rattle.omf_cmd.specs.Parsed.{IsParsed}
use Rattle.omf_cmd.specs.Words.{asks, job_named, omf_app, profile_of, status_of, usage}
use Rattle.omf_cmd.specs.declared.fault.RunFault.{RunFault}
use Rattle.omf_cmd.specs.declared.fault.RunFault.TheVariants as fault
use Rattle.omf_cmd.specs.declared.words.Job.{Job}
use Rattle.omf_cmd.specs.declared.words.Job.TheVariants as job

-- Converts a fault of the check.
abbrev pub of_check : CheckFault → RunFault
of_check check.Memory = fault.Memory
of_check check.Read = fault.Read
of_check (check.Refused why at) = fault.Refused why at

-- The fault is not one of a placement.
abbrev pub IsModuleFault : RunFault → Type 0
IsModuleFault (fault.Line n) = ⊥
IsModuleFault fault.TooLong = ⊥
IsModuleFault (fault.Reach f) = ⊥
IsModuleFault _ = Unit {0}

-- What a result shows of an input, and how far that was read. Done, or a failed writer: the input begins with a module of these records.
-- Refused: the input is refused so. Out of memory, or a failed reader: the bytes read hold no refusal. There is no fault of a placement. If
-- memory ran out before the module was read, there are no records.
abbrev pub Judges : Profile → List ℕ → List Raw → Option (List ℕ) → Option (List ℕ) → Result (Unit {0}) RunFault → Type 0
Judges profile input records old new (Ok done) = IsReadFrom profile input records old new
Judges profile input records old new (Err fault.Write) = IsReadFrom profile input records old new
Judges profile input records old new (Err (fault.Refused why at)) = IsRefused profile profile_limits input why at × EndsAtRefusal profile old new why at
Judges profile input records old new (Err fault.Memory) = (IsUnrefused profile old new × (records ≡ [])) ⊎ IsReadFrom profile input records old new
Judges profile input records old new (Err fault.Read) = IsUndecided profile old new
Judges profile input records old new _ = ⊥

-- The result of a run that prints a text of the module's records, and what it reads and writes. `prints` gives how the text is written.
abbrev pub ReportsBy : (Option (List ℕ) → Option (List ℕ) → Result (Unit {0}) RunFault → List ℕ → Type 0) → (List Raw → List ℕ) → Profile → Device → Device → Device → Device → Result (Unit {0}) RunFault → Type 0
ReportsBy prints text profile reader reader' writer writer' ran =
    (records : List Raw) × prints writer.bytes writer'.bytes ran (text records) × ((input : List ℕ) → reader.bytes ≡ Some input → Judges profile input records reader.bytes reader'.bytes ran)

-- The result of a job, and what it reads and writes. A listing is written in pieces, so that a front of it may be written if memory runs out.
abbrev pub IsRun : Job → Profile → Device → Device → Device → Device → Result (Unit {0}) RunFault → Type 0
IsRun job.List profile reader reader' writer writer' ran = ReportsBy PrintsInPieces list_text profile reader reader' writer writer' ran
IsRun job.Check profile reader reader' writer writer' ran = ReportsBy Prints check_text profile reader reader' writer writer' ran
IsRun job.Canon profile reader reader' writer writer' ran = ReportsBy Prints (λ rs. canonical (recs rs)) profile reader reader' writer writer' ran
IsRun job.Reloc profile reader reader' writer writer' ran = IsRelocation profile reader reader' writer writer' ran

-- A job over the module alone has no fault of a placement, even if the bytes of its reader are unknown.
abbrev pub IsNamedBy : Job → Result (Unit {0}) RunFault → Type 0
IsNamedBy job.Reloc ran = ⊤
IsNamedBy _ ran = IfErr ran IsModuleFault

-- What `omf` reports of a fault.
abbrev pub report : RunFault → FaultReport
report f = record { status = status_of f; text = fault_text f }

-- A run of a job with a profile: its result, what it reads and writes, and which device failed.
pub record IsPerformed (asked : Job × Profile) (reader reader' writer writer' : Device) (ran : Result (Unit {0}) RunFault) : Type 0 where
  pub run : IsRun asked.0 asked.1 reader reader' writer writer' ran
  pub cause : IsCausedBy reader reader' writer writer' ran
  pub named : IsNamedBy asked.0 ran

-- The job and the profile that `omf` finds in its arguments. None: they are not understood.
pub record IsFound (arguments : List Text) (found : Option (Job × Profile)) : Type 0 where
  -- The subcommand after the program's name, alone or with the flag.
  pub asks : (asked : Job × Profile) → asks arguments ≡ Some asked → found ≡ Some asked
  -- Each subcommand that clap finds in arguments without a fault, as in `omf check --`.
  pub parsed : (name : Text) (job : Job) (refuses : Bool) → fault_of omf_app arguments ≡ [] → IsParsed (subcommand_of omf_app arguments) name refuses → job_named name ≡ Some job → found ≡ Some (job, profile_of refuses)
  pub none : subcommand_of omf_app arguments ≡ None → found ≡ None
  pub refused : (found ≡ None) ⊎ (fault_of omf_app arguments ≡ [])

-- The answer of `omf` to arguments that ask for a job: it was run, or memory ran out before.
abbrev pub IsDone : Job × Profile → Device → Device → Device → Device → ℕ → Type 0
IsDone asked reader reader' writer writer' status = RunsAndEnds (IsPerformed asked) report reader reader' writer writer' status ⊎ IsOutOfMemory reader reader' writer writer' status

-- What `omf` answers to its arguments. If they ask for a job, it is run, unless memory ran out before; so is each job that clap finds in
-- arguments without a fault, as in `omf check --`. If they name no subcommand, or clap refuses them, the usage is printed.
pub record AnswersTo (arguments : List Text) (reader reader' writer writer' : Device) (status : ℕ) : Type 0 where
  pub answer : (asked : Job × Profile) → asks arguments ≡ Some asked → IsDone asked reader reader' writer writer' status
  pub parsed : (name : Text) (job : Job) (refuses : Bool) → fault_of omf_app arguments ≡ [] → IsParsed (subcommand_of omf_app arguments) name refuses → job_named name ≡ Some job → IsDone (job, profile_of refuses) reader reader' writer writer' status
  pub nothing : subcommand_of omf_app arguments ≡ None → Misuses usage reader reader' writer writer' status
  pub misuse : (fault_of omf_app arguments ≡ [] → ⊥) → Misuses usage reader reader' writer writer' status
