-- What a run over a module answers and writes, from what its parts answer.
use Rattle.std.proofs.Common.{◌≡◌, ◌≤◌, arith, ℕ, List, [], ◌∷◌, ◌++◌, Result, Ok, Err, refl, sym, subst, ◌∙◌, inl, inr}
use Rattle.std.proofs.lemmas.List.{append-nil}
use Rattle.std.proofs.KnownBytes.{Appends-nil}
use Rattle.std.specs.Io.KnownBytes.{Consumes, Keeps}
use Rattle.std.specs.Prelude.{Option, Some, None, IfErr}
use Rattle.omf_frame.specs.Device.{Device}
use Rattle.omf_frame.specs.Framing.{Raw}
use Rattle.omf_records.specs.Values.{Rec}
use Rattle.omf_cmd.specs.Relocating.{IsOutcome}
use Rattle.omf_check.specs.Checking.{Decides, IsCheckFault, IsReadPatiently}
use Rattle.omf_check.specs.Module.{Module, records_in}
use Rattle.omf_check.specs.declared.fault.CheckFault.{CheckFault}
use Rattle.omf_check.specs.declared.fault.CheckFault.TheVariants as check
use Rattle.omf_check.specs.declared.profile.Profile.{Profile}
use Rattle.omf_cmd.specs.HowFar.{IsReadFrom}
use Rattle.omf_cmd.specs.Reports.{of_check, IsModuleFault, Judges, ReportsBy}
use Rattle.omf_cmd.specs.Runs.{IsCausedBy, IsPart, IsPrintCause, IsReadCause, IsUnbroken, Prints, PrintsInPieces}
use Rattle.omf_cmd.proofs.Pieces.{given_up_later, unbroken_on}
use Rattle.omf_cmd.specs.declared.fault.RunFault.{RunFault}
use Rattle.omf_cmd.specs.declared.fault.RunFault.TheVariants as fault

pub kept : (held : Option (List ℕ)) → Keeps held held
kept None = tt
kept (Some xs) = refl

-- ---- which device is named

pub still : (device : Device) → IsUnbroken device device
still device = (refl, omega arith)

-- a fault of the check
pub check_cause : (profile : Profile) (old new : Device) (e : CheckFault) → old.failures ≤ new.failures → IsReadPatiently {A = Module} old new (Err e) → IsCheckFault profile old.bytes new.bytes old.failures new.failures e
    → IsReadCause {A = List ℕ} old new (Err (of_check e))
check_cause profile old new check.Memory grows h c = (h, grows)
check_cause profile old new check.Read grows h c = (c.0, h)
check_cause profile old new (check.Refused why at) grows h c = (h, grows)

-- the outcome for a module and a text, which names no device
pub outcome_cause : (old new : Device) (m : List Rec) (given : List ℕ) (r : Result (List ℕ) RunFault) → IsOutcome m given r → IsUnbroken old new → IsReadCause {A = List ℕ} old new r
outcome_cause old new m given (Ok shown) is h = h
outcome_cause old new m given (Err fault.Memory) is h = h
outcome_cause old new m given (Err (fault.Line n)) is h = h
outcome_cause old new m given (Err fault.TooLong) is h = h
outcome_cause old new m given (Err (fault.Reach f)) is h = h
outcome_cause old new m given (Err fault.Read) is h = absurd is
outcome_cause old new m given (Err fault.Write) is h = absurd is
outcome_cause old new m given (Err (fault.Refused why at)) is h = absurd is

-- nothing was written
pub read_caused : (reader reader' writer : Device) (e : RunFault) → IsReadCause {A = List ℕ} reader reader' (Err e) → IsCausedBy reader reader' writer writer (Err e)
read_caused reader reader' writer fault.Read c = (c, still writer)
read_caused reader reader' writer fault.Write c = absurd c
read_caused reader reader' writer fault.Memory c = (c, still writer)
read_caused reader reader' writer (fault.Refused why at) c = (c, still writer)
read_caused reader reader' writer (fault.Line n) c = (c, still writer)
read_caused reader reader' writer fault.TooLong c = (c, still writer)
read_caused reader reader' writer (fault.Reach f) c = (c, still writer)

-- all was read, and then something written
pub print_caused : (reader reader' writer writer' : Device) (r : Result (Unit {0}) RunFault) → IsUnbroken reader reader' → IsPrintCause writer writer' r → IsCausedBy reader reader' writer writer' r
print_caused reader reader' writer writer' (Ok done) h c = (h, c)
print_caused reader reader' writer writer' (Err fault.Memory) h c = (h, c)
print_caused reader reader' writer writer' (Err fault.Write) h c = (h, c)
print_caused reader reader' writer writer' (Err fault.Read) h c = absurd c
print_caused reader reader' writer writer' (Err (fault.Refused why at)) h c = absurd c
print_caused reader reader' writer writer' (Err (fault.Line n)) h c = absurd c
print_caused reader reader' writer writer' (Err fault.TooLong) h c = absurd c
print_caused reader reader' writer writer' (Err (fault.Reach f)) h c = absurd c

-- a text that was read after the module
pub read_later : (old mid new : Device) (e : RunFault) → IsUnbroken old mid → IsReadCause {A = List ℕ} mid new (Err e) → IsReadCause {A = List ℕ} old new (Err e)
read_later old mid new fault.Read h c = given_up_later old mid new h c
read_later old mid new fault.Write h c = absurd c
read_later old mid new fault.Memory h c = unbroken_on old mid new h c
read_later old mid new (fault.Refused why at) h c = unbroken_on old mid new h c
read_later old mid new (fault.Line n) h c = unbroken_on old mid new h c
read_later old mid new fault.TooLong h c = unbroken_on old mid new h c
read_later old mid new (fault.Reach f) h c = unbroken_on old mid new h c

-- ---- a run that prints a text of the module's records

-- What the writer gets of a text, by the answer.
abbrev pub Printing : Type 1
Printing = Option (List ℕ) → Option (List ℕ) → Result (Unit {0}) RunFault → List ℕ → Type 0

-- What such a run answers, reads and writes: the clauses of `check`, `list` and `canon`.
pub record IsReport (prints_by : Printing) (text : List Raw → List ℕ) (profile : Profile) (reader reader' writer writer' : Device) (ran : Result (Unit {0}) RunFault) : Type 0 where
  pub cause : IsCausedBy reader reader' writer writer' ran
  pub fault : IfErr ran IsModuleFault
  pub prints : ReportsBy prints_by text profile reader reader' writer writer' ran

-- the faults of a check and of printing are no faults of a placement
pub check_fault : (e : CheckFault) → IsModuleFault (of_check e)
check_fault check.Memory = tt
check_fault check.Read = tt
check_fault (check.Refused why at) = tt

print_fault : (old new : Device) (r : Result (Unit {0}) RunFault) → IsPrintCause old new r → IfErr r IsModuleFault
print_fault old new (Ok done) c = tt
print_fault old new (Err fault.Memory) c = tt
print_fault old new (Err fault.Write) c = tt
print_fault old new (Err fault.Read) c = absurd c
print_fault old new (Err (fault.Refused why at)) c = absurd c
print_fault old new (Err (fault.Line n)) c = absurd c
print_fault old new (Err fault.TooLong) c = absurd c
print_fault old new (Err (fault.Reach f)) c = absurd c

-- nothing is written where the check answers no module
pub none_printed : (held : Option (List ℕ)) (e : CheckFault) (text : List ℕ) → Prints held held (Err (of_check e)) text
none_printed held check.Memory text = kept held
none_printed held check.Read text = kept held
none_printed held (check.Refused why at) text = kept held

pub none_in_pieces : (held : Option (List ℕ)) (e : CheckFault) (text : List ℕ) → PrintsInPieces held held (Err (of_check e)) text
none_in_pieces held check.Memory text = ([], text, refl, Appends-nil held)
none_in_pieces held check.Read text = kept held
none_in_pieces held (check.Refused why at) text = kept held

none_judged : (profile : Profile) (input : List ℕ) (old new : Option (List ℕ)) (failed fails : ℕ) (e : CheckFault) → Decides profile input (Err e) → IsCheckFault profile old new failed fails e → Judges profile input [] old new (Err (of_check e))
none_judged profile input old new failed fails check.Memory d c = inl (c, refl)
none_judged profile input old new failed fails check.Read d c = c.1
none_judged profile input old new failed fails (check.Refused why at) d c = (d, c)

-- a module that was read, and then something printed
one_judged : (profile : Profile) (input : List ℕ) (records : List Raw) (old new : Option (List ℕ)) (before after : Device) (r : Result (Unit {0}) RunFault) → IsPrintCause before after r → IsReadFrom profile input records old new → Judges profile input records old new r
one_judged profile input records old new before after (Ok done) c h = h
one_judged profile input records old new before after (Err fault.Memory) c h = inr h
one_judged profile input records old new before after (Err fault.Write) c h = h
one_judged profile input records old new before after (Err fault.Read) c h = absurd c
one_judged profile input records old new before after (Err (fault.Refused why at)) c h = absurd c
one_judged profile input records old new before after (Err (fault.Line n)) c h = absurd c
one_judged profile input records old new before after (Err fault.TooLong) c h = absurd c
one_judged profile input records old new before after (Err (fault.Reach f)) c h = absurd c

module _ (prints_by : Printing) (text : List Raw → List ℕ) (profile : Profile) (reader reader' writer : Device) where
  -- The check gives no module: its fault is answered, and nothing is written.
  pub not_reported : (e : CheckFault) → prints_by writer.bytes writer.bytes (Err (of_check e)) (text []) → ((input : List ℕ) → reader.bytes ≡ Some input → Decides profile input (Err e))
      → IsCheckFault profile reader.bytes reader'.bytes reader.failures reader'.failures e → IsReadPatiently {A = Module} reader reader' (Err e) → reader.failures ≤ reader'.failures
      → IsReport prints_by text profile reader reader' writer writer (Err (of_check e))
  not_reported e none d c patient grows = record {
    cause = read_caused reader reader' writer (of_check e) (check_cause profile reader reader' e grows patient c);
    fault = check_fault e;
    prints = ([], none, λ input told. none_judged profile input reader.bytes reader'.bytes reader.failures reader'.failures e (d input told) c);
  }

  -- It gives a module, and that one's text is printed: the answer of printing is that of the run.
  pub reported : (writer' : Device) (m : Module) → ((input : List ℕ) → reader.bytes ≡ Some input → Decides profile input (Ok m)) → Consumes reader.bytes reader'.bytes m.bytes
      → reader'.breaks ≡ reader.breaks → reader.failures ≤ reader'.failures → (r : Result (Unit {0}) RunFault)
      → prints_by writer.bytes writer'.bytes r (text (records_in m.bytes)) → IsPrintCause writer writer' r
      → IsReport prints_by text profile reader reader' writer writer' r
  reported writer' m d read patient grows r p cause =
      let from : (input : List ℕ) → reader.bytes ≡ Some input → IsReadFrom profile input (records_in m.bytes) reader.bytes reader'.bytes = λ input told.
      let a = d input told in record { accepted = a.1.0; read = subst (Consumes reader.bytes reader'.bytes) (sym a.1.1) read } in
      record {
        cause = print_caused reader reader' writer writer' r (patient, grows) cause;
        fault = print_fault writer writer' r cause;
        prints = (records_in m.bytes, p, λ input told. one_judged profile input (records_in m.bytes) reader.bytes reader'.bytes writer writer' r cause (from input told));
      }
