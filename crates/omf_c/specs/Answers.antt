-- The results for faults and texts (this profile's rule).
use Rattle.std.specs.Prelude.{◌≡◌, ◌⊎◌, ◌<◌, ◌≤◌, ℕ, List, ◌++◌, drop, length, Result, Ok, Err}
use Rattle.omf_frame.specs.Fault.{reason_number}
use Rattle.omf_reloc.specs.declared.fault.Cause.{Cause}
use Rattle.omf_reloc.specs.declared.fault.Cause.TheVariants as cause
use Rattle.omf_reloc.specs.declared.fault.Kind.{Kind}
use Rattle.omf_reloc.specs.declared.fault.Kind.TheVariants as kinds
use Rattle.omf_reloc.specs.declared.fault.ReachFault.{ReachFault}
use Rattle.omf_reloc.specs.declared.fault.ReachFault.TheVariants as reach
use Rattle.omf_cmd.specs.declared.fault.RunFault.{RunFault}
use Rattle.omf_cmd.specs.declared.fault.RunFault.TheVariants as fault
use Rattle.omf_c.specs.declared.answer.Answer.{Answer}

-- Status 0, and 0 in every other field.
abbrev pub done : Answer
done = record { status = 0; reason = 0; kind = 0; index = 0; number = 0; within = 0; start = 0; line = 0; size = 0; record_count = 0 }

-- The numbers of kinds are those of the target methods T0 to T2 (TIS OMF 1.1, "FIXUPP"). Causes count from 1.
abbrev pub kind_number : Kind → ℕ
kind_number kinds.Segment = 0
kind_number kinds.Group = 1
kind_number kinds.External = 2

abbrev pub cause_number : Cause → ℕ
cause_number cause.Target = 1
cause_number cause.Location = 2
cause_number cause.Distance = 3

-- The result for a placement that does not reach: the number of the reason and its values.
abbrev pub of_reach : ReachFault → Answer
of_reach (reach.Missing k i) = record done { status = 7; reason = 1; kind = kind_number k; index = i }
of_reach (reach.Extra k i) = record done { status = 7; reason = 2; kind = kind_number k; index = i }
of_reach (reach.Absolute i) = record done { status = 7; reason = 3; index = i }
of_reach (reach.TooFar n w c) = record done { status = 7; reason = 4; kind = cause_number c; number = n; within = w }

-- The result for a fault: its number and its values.
abbrev pub of_fault : RunFault → Answer
of_fault fault.Memory = record done { status = 1 }
of_fault fault.Read = record done { status = 2 }
of_fault fault.Write = record done { status = 3 }
of_fault (fault.Refused why at) = record done { status = 4; reason = reason_number why; number = at.number; within = at.within; start = at.start }
of_fault (fault.Line n) = record done { status = 5; line = n }
of_fault fault.TooLong = record done { status = 6 }
of_fault (fault.Reach f) = of_reach f

-- A text, or the rows of a table. One that fits is at the start of the buffer, and the rest of the buffer is unchanged; if it does not fit,
-- the whole buffer is unchanged. The result has its size: the number of bytes, or of rows.
abbrev pub HandsOut : {A : Type 0} → List A → Answer → List A → List A → Type 0
HandsOut text answer old new =
    ((length text ≤ length old) × (answer ≡ record done { size = length text }) × (new ≡ text ++ drop (length text) old))
    ⊎ ((length old < length text) × (answer ≡ record done { status = 8; size = length text }) × (new ≡ old))

-- The result for a text, or for the fault in its place. A fault leaves the buffer unchanged.
abbrev pub Tells : {A : Type 0} → Result (List A) RunFault → Answer → List A → List A → Type 0
Tells (Ok text) answer old new = HandsOut text answer old new
Tells (Err f) answer old new = (answer ≡ of_fault f) × (new ≡ old)

-- A call made a text or a fault by this rule, and returned the result for it.
abbrev pub IsAnswered : {A : Type 0} → (Result (List A) RunFault → Type 0) → Answer → List A → List A → Type 0
IsAnswered {A} IsMade answer old new = (made : Result (List A) RunFault) × IsMade made × Tells made answer old new
