-- The texts of reasons and faults.
use Rattle.std.specs.Prelude.{◌≡◌, ◌⊎◌, ◌<◌, ◌^◌, ⊤, ℕ, List, [], Option, Some}
use Rattle.omf_frame.specs.Fault.{reason_number}
use Rattle.omf_frame.specs.declared.fault.Reason.{Reason}
use Rattle.omf_reloc.specs.declared.fault.ReachFault.{ReachFault}
use Rattle.omf_reloc.specs.declared.fault.ReachFault.TheVariants as reach
use Rattle.omf_cmd.specs.FaultLine.{fault_line}
use Rattle.omf_cmd.specs.declared.fault.RunFault.{RunFault}
use Rattle.omf_cmd.specs.declared.fault.RunFault.TheVariants as fault
use Rattle.omf_c.specs.Answers.{HandsOut, done, of_fault}
use Rattle.omf_c.specs.declared.answer.Answer.{Answer}

-- The text of the reason with this number, 1 to 33; empty for any other number.
abbrev pub IsReasonText : (Reason → List ℕ) → ℕ → List ℕ → Type 0
IsReasonText text number shown = ((reason : Reason) × (reason_number reason ≡ number) × (shown ≡ text reason)) ⊎ (((number ≡ 0) ⊎ (33 < number)) × (shown ≡ []))

-- The value of which this holds is found, if there is one.
abbrev pub Finds : {A : Type 0} → Option A → (A → Type 0) → Type 0
Finds {A} found Is = (x : A) → Is x → found ≡ Some x

-- The index of a segment, group or external, where a fault names one, is below 2^16.
abbrev pub HasIndex : ReachFault → Type 0
HasIndex (reach.Missing k i) = i < 2 ^ 16
HasIndex (reach.Extra k i) = i < 2 ^ 16
HasIndex (reach.Absolute i) = i < 2 ^ 16
HasIndex (reach.TooFar n w c) = ⊤

abbrev pub IsInRange : RunFault → Type 0
IsInRange (fault.Reach f) = HasIndex f
IsInRange _ = ⊤

-- This is the result of this fault.
abbrev pub IsResultOf : Answer → RunFault → Type 0
IsResultOf answer f = IsInRange f × (of_fault f ≡ answer)

-- It is the result of no fault.
abbrev pub IsOfNoFault : Answer → Type 0
IsOfNoFault answer = (f : RunFault) → IsResultOf answer f → ⊥

-- The line of the fault whose result this is, without its line feed; empty only if it is the result of no fault.
abbrev pub IsFaultText : Answer → List ℕ → Type 0
IsFaultText answer shown = ((f : RunFault) × IsResultOf answer f × (shown ≡ fault_line f)) ⊎ (IsOfNoFault answer × (shown ≡ []))

-- A text of this kind was handed out.
abbrev pub Shows : (List ℕ → Type 0) → Answer → List ℕ → List ℕ → Type 0
Shows IsText answer old new = (text : List ℕ) × IsText text × HandsOut text answer old new

-- The same, or memory ran out and the buffer is unchanged.
abbrev pub ShowsOrFails : (List ℕ → Type 0) → Answer → List ℕ → List ℕ → Type 0
ShowsOrFails IsText answer old new = Shows IsText answer old new ⊎ ((answer ≡ record done { status = 1 }) × (new ≡ old))
