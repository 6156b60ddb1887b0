-- The verdict on an input, computed record by record.
use Rattle.std.specs.Prelude.{ℕ, zero, suc, ◌+◌, List, [], ◌∷◌, ◌++◌, length, true, false, Some, None}
use Rattle.omf_frame.specs.Fault.{least}
use Rattle.omf_frame.specs.Framing.{Raw, is_end, front_record, after_front, present}
use Rattle.omf_frame.specs.declared.fault.Place.{Place}
use Rattle.omf_frame.specs.declared.fault.Reason.{Reason}
use Rattle.omf_image.specs.declared.limits.Limits.{Limits}
use Rattle.omf_check.specs.Inner.Names.{place_after}
use Rattle.omf_check.specs.Inner.Faults.{faults_after}
use Rattle.omf_check.specs.declared.profile.Profile.{Profile}

-- Accepted with these records, or refused. `Unknown` does not occur.
pub data Verdict : Type 0 where
  Accepted : List Raw → Verdict
  Refused : Reason → Place → Verdict
  Unknown : Verdict

abbrev pub verdict_from : ℕ → Profile → Limits → List Raw → List ℕ → Verdict
verdict_from zero profile limits before bytes = Unknown
verdict_from (suc fuel) profile limits before bytes =
    elim (least (faults_after profile limits before (present bytes))) [
      | Some f ↦ Refused f.reason (place_after before f)
      | None ↦ elim (is_end (front_record (present bytes)).kind) [
        | true ↦ Accepted (before ++ front_record (present bytes) ∷ [])
        | false ↦ verdict_from fuel profile limits (before ++ front_record (present bytes) ∷ []) (after_front bytes)
      ]
    ]

abbrev pub verdict : Profile → Limits → List ℕ → Verdict
verdict profile limits input = verdict_from (length input + 1) profile limits [] input
