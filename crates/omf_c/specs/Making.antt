-- The texts made of the module at the start of some bytes. Memory may run out at any time; no device is involved.
use Rattle.std.specs.Prelude.{◌≡◌, ⊤, ℕ, List, length, Result, Ok, Err}
use Rattle.omf_frame.specs.Framing.{Raw}
use Rattle.omf_records.specs.Values.{Rec}
use Rattle.omf_image.specs.Limits.{profile_limits}
use Rattle.omf_check.specs.Module.{Module, records_in}
use Rattle.omf_check.specs.Refusal.{IsRefused}
use Rattle.omf_check.specs.WellFormed.{IsAccepted, recs}
use Rattle.omf_check.specs.declared.profile.Profile.{Profile}
use Rattle.omf_cmd.specs.Outcome.{reloc_outcome}
use Rattle.omf_cmd.specs.Relocating.{IsOutcome}
use Rattle.omf_cmd.specs.declared.fault.RunFault.{RunFault}
use Rattle.omf_cmd.specs.declared.fault.RunFault.TheVariants as fault
use Rattle.omf_c.specs.Answers.{done, of_fault}
use Rattle.omf_c.specs.declared.answer.Answer.{Answer}

-- No text: the module is refused, or memory ran out.
abbrev pub IsNoModule : Profile → List ℕ → RunFault → Type 0
IsNoModule profile bytes fault.Memory = ⊤
IsNoModule profile bytes (fault.Refused why at) = IsRefused profile profile_limits bytes why at
IsNoModule profile bytes _ = ⊥

-- The bytes begin with this module, or with none and are refused with this fault.
abbrev pub IsModule : Profile → List ℕ → Result Module RunFault → Type 0
IsModule profile bytes (Ok m) = (a : IsAccepted profile profile_limits bytes (records_in m.bytes)) × (a.bytes ≡ m.bytes)
IsModule profile bytes (Err f) = IsNoModule profile bytes f

-- A text, or the rows of a table, made from the records of the module at the start of the bytes.
abbrev pub IsTextOf : {A : Type 0} → (List Raw → List A) → Profile → List ℕ → Result (List A) RunFault → Type 0
IsTextOf text profile bytes (Ok shown) = (records : List Raw) × IsAccepted profile profile_limits bytes records × (shown ≡ text records)
IsTextOf text profile bytes (Err f) = IsNoModule profile bytes f

-- The outcome for a module and a placement text, as far as it is made: memory may also run out while the listing is written.
abbrev pub IsMade : List Rec → List ℕ → Result (List ℕ) RunFault → Type 0
IsMade m given (Ok text) = IsOutcome m given (Ok text)
IsMade m given (Err fault.Memory) = ⊤
IsMade m given (Err fault.Read) = ⊥
IsMade m given (Err fault.Write) = ⊥
IsMade m given (Err (fault.Refused why at)) = ⊥
IsMade m given (Err (fault.Line n)) = IsOutcome m given (Err (fault.Line n))
IsMade m given (Err fault.TooLong) = IsOutcome m given (Err fault.TooLong)
IsMade m given (Err (fault.Reach f)) = IsOutcome m given (Err (fault.Reach f))

-- The outcome for the module at the start of the bytes and a placement text: the listing, or the first fault.
abbrev pub HasOutcome : Profile → List ℕ → List ℕ → Result (List ℕ) RunFault → Type 0
HasOutcome profile bytes text r = (records : List Raw) × IsAccepted profile profile_limits bytes records × (reloc_outcome profile_limits (recs records) text ≡ r)

abbrev pub IsPlacedText : Profile → List ℕ → List ℕ → Result (List ℕ) RunFault → Type 0
IsPlacedText profile bytes text (Ok shown) = HasOutcome profile bytes text (Ok shown)
IsPlacedText profile bytes text (Err (fault.Line n)) = HasOutcome profile bytes text (Err (fault.Line n))
IsPlacedText profile bytes text (Err fault.TooLong) = HasOutcome profile bytes text (Err fault.TooLong)
IsPlacedText profile bytes text (Err (fault.Reach f)) = HasOutcome profile bytes text (Err (fault.Reach f))
IsPlacedText profile bytes text (Err f) = IsNoModule profile bytes f

-- The result for it.
abbrev pub verdict : Result Module RunFault → Answer
verdict (Ok m) = record done { size = length m.bytes; record_count = length (records_in m.bytes) }
verdict (Err f) = of_fault f

-- The verdict on some bytes: the size and the number of records of the module at their start, or its refusal.
abbrev pub IsVerdict : Profile → List ℕ → Answer → Type 0
IsVerdict profile bytes answer = (judged : Result Module RunFault) × IsModule profile bytes judged × (answer ≡ verdict judged)
