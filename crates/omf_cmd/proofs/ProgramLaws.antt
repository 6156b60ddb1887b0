-- How programs answer their arguments.
use Rattle.std.proofs.Common.{◌≡◌, ◌≤◌, ◌⊎◌, ℕ, List, [], Result, Ok, Err, Option, Some, None, Bool, subst, inl, inr}
use Rattle.std.specs.Prelude.{IfOk, OnErr}
use Rattle.clap.specs.Words.{Text, fault_of, subcommand_of}
use Rattle.omf_check.specs.declared.profile.Profile.{Profile}
use Rattle.std.specs.IoError.{error_kind}
use Rattle.std.specs.declared.io.Error.{Error}
use Rattle.omf_frame.specs.Device.{Device, HasFailed, TriesAgain, Writes, is_interruption}
use Rattle.omf_frame.proofs.Tries.{last_try}
use Rattle.omf_cmd.specs.Reports.{report, AnswersTo, IsFound, IsPerformed}
use Rattle.omf_cmd.specs.Parsed.{IsParsed}
use Rattle.omf_cmd.specs.Programs.{Acts, EndsFlushed, FaultReport, HasRunOn, IsOutOfMemory, ProgramAnswers}
use Rattle.omf_cmd.specs.Runs.{IsWritten}
use Rattle.omf_cmd.specs.Words.{asks, job_named, omf_app, profile_of, usage}
use Rattle.omf_cmd.specs.declared.words.Job.{Job}

-- bytes that are pushed are written, or a front of them
pub told : (old new : Device) (text : List ℕ) (r : Result (Unit {0}) Error) → Writes old.bytes new.bytes r text → OnErr r (HasFailed old.failures new.failures) → old.failures ≤ new.failures → TriesAgain old new r
    → IsWritten old new text
told old new text (Ok done) w f g t = inl ((t, g), w)
told old new text (Err e) w f g t = inr ((f, last_try (is_interruption (error_kind e)) old new t), w)

-- A program that ran out of memory before its arguments were read ran: it answers so to some arguments.
pub ran_out : {T F : Type 0} (asks : List (List ℕ) → Option T → Type 0) (performs : T → Device → Device → Device → Device → Result (Unit {0}) F → Type 0) (report : F → FaultReport) (usage : List ℕ)
    (writer writer' : Device) (flushed : Bool) (status : ℕ) → ((reader : Device) → EndsFlushed (IsOutOfMemory reader reader writer) writer' flushed status) → HasRunOn (ProgramAnswers asks performs report usage) writer writer' flushed status
ran_out asks performs report usage writer writer' flushed status h =
    let idle : Device = record { bytes = None; failures = 0; breaks = 0 } in
    let e = h idle in
    ([], idle, idle, record { between = e.between; ended = e.ended; answer = inr e.answer; kept = e.kept; is = e.is })

-- what `command` finds
pub is_found : {E : Type 0} (arguments : List Text) (r : Result (Option (Job × Profile)) E)
    → ((asked : Job × Profile) → asks arguments ≡ Some asked → IfOk r (λ found. found ≡ Some asked))
    → ((name : Text) (job : Job) (refuses : Bool) → fault_of omf_app arguments ≡ [] → IsParsed (subcommand_of omf_app arguments) name refuses → job_named name ≡ Some job → IfOk r (λ found. found ≡ Some (job, profile_of refuses)))
    → (subcommand_of omf_app arguments ≡ None → IfOk r (λ found. found ≡ None))
    → IfOk r (λ found. (found ≡ None) ⊎ (fault_of omf_app arguments ≡ []))
    → IfOk r (IsFound arguments)
is_found arguments (Ok found) a p n f = record { asks = a; parsed = p; none = n; refused = f }
is_found arguments (Err e) a p n f = tt

-- nothing is found in arguments with a fault
not_found : {A B : Type 0} → A ⊎ B → (B → ⊥) → A
not_found (inl a) bad = a
not_found (inr b) bad = absurd (bad b)

-- the answer of `omf`, from that of programs
pub answers_to : (arguments : List Text) (reader reader' writer writer' : Device) (status : ℕ) → ProgramAnswers IsFound IsPerformed report usage arguments reader reader' writer writer' status
    → AnswersTo arguments reader reader' writer writer' status
answers_to arguments reader reader' writer writer' status (inl (found, is, acts)) =
    let act = λ (o : Option (Job × Profile)). Acts IsPerformed report usage o reader reader' writer writer' status in
    record {
      answer = λ asked a. inl (subst act (is.asks asked a) acts);
      parsed = λ name job refuses fine names known. inl (subst act (is.parsed name job refuses fine names known) acts);
      nothing = λ e. inl (subst act (is.none e) acts);
      misuse = λ bad. inl (subst act (not_found is.refused bad) acts);
    }
answers_to arguments reader reader' writer writer' status (inr out) = record {
  answer = λ asked a. inr out;
  parsed = λ name job refuses fine names known. inr out;
  nothing = λ e. inr out;
  misuse = λ bad. inr out;
}
