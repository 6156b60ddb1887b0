-- A run whose fault goes on the standard error.
use Rattle.std.proofs.Common.{◌≡◌, ℕ, List, [], Result, Ok, Err, arith, refl, subst, sym, ◌∙◌, inl, inr}
use Rattle.omf_frame.specs.Device.{Device, HasFailed}
use Rattle.omf_cmd.specs.Programs.{FaultReport, in_memory}
use Rattle.omf_cmd.specs.Runs.{IsWritten}
use Rattle.omf_host.specs.Ending.{exit_code}
use Rattle.omf_host.specs.Streams.{IsTold}
use Rattle.omf_host.specs.declared.ending.Status.{Status}
use Rattle.omf_host.specs.declared.ending.Status.TheVariants as status
use Rattle.omf_drafting.specs.Telling.{RunsAndTells}

none_failed : (n : ℕ) → HasFailed 0 n → n ≡ 0 → ⊥
none_failed n (inl h) z = omega arith
none_failed n (inr h) z = omega arith

whole_in_memory : (n : ℕ) (items text : List ℕ) → n ≡ 0 → IsWritten (in_memory 0 []) (in_memory n items) text → items ≡ text
whole_in_memory n items text z (inl h) = h.1
whole_in_memory n items text z (inr h) = absurd (none_failed n h.0.0 z)

-- a sink in memory with no refusals holds the whole text
pub whole_kept : (old : Device) (n : ℕ) (items text : List ℕ) → old ≡ in_memory 0 [] → n ≡ 0 → IsWritten old (in_memory n items) text → items ≡ text
whole_kept old n items text e z h = whole_in_memory n items text z (subst (λ (d : Device). IsWritten d (in_memory n items) text) e h)

module _ {F : Type 0} (performs : Device → Device → Device → Device → Result (Unit {0}) F → Type 0) (report : F → FaultReport) (name : List ℕ) (reader reader' output output' : Device) where
  pub done : (errors : Device) → performs reader reader' output output' (Ok tt) → RunsAndTells performs report name reader reader' output output' errors errors status.Done
  done errors p = record { ran = Ok tt; run = p; told = (refl, refl) }

  pub failed : (errors errors' : Device) (f : F) (s : Status) (code : ℕ) → performs reader reader' output output' (Err f) → exit_code s ≡ code → code ≡ (report f).status → IsTold name (report f).text errors errors' → RunsAndTells performs report name reader reader' output output' errors errors' s
  failed errors errors' f s code p is known told = record { ran = Err f; run = p; told = (is ∙ known, told) }

-- the output is as the run left it
pub failed_later : {F K : Type 0} (performs : Device → Device → Device → Device → Result (Unit {0}) F → Type 0) (report : F → FaultReport) (name : List ℕ) (reader reader' output : Device) (seen : K → Device) (mid new : K) (errors errors' : Device) (f : F) (s : Status) (code : ℕ) → new ≡ mid → performs reader reader' output (seen mid) (Err f) → exit_code s ≡ code → code ≡ (report f).status → IsTold name (report f).text errors errors' → RunsAndTells performs report name reader reader' output (seen new) errors errors' s
failed_later performs report name reader reader' output seen mid new errors errors' f s code same p is known told =
    subst (λ k. RunsAndTells performs report name reader reader' output (seen k) errors errors' s) (sym same) (failed performs report name reader reader' output (seen mid) errors errors' f s code p is known told)
