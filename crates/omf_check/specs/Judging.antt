-- The verdict on an input without its module: the numbers of records and bytes, or the refusal.
use Rattle.std.specs.Prelude.{◌≡◌, ◌⊎◌, ⊤, ℕ, List, length, Option, Result, Ok, Err}
use Rattle.std.specs.Io.KnownBytes.{Consumes}
use Rattle.omf_frame.specs.Framing.{Raw}
use Rattle.omf_image.specs.Limits.{profile_limits}
use Rattle.omf_check.specs.Module.{records_in}
use Rattle.omf_check.specs.Refusal.{IsRefused}
use Rattle.omf_check.specs.WellFormed.{IsAccepted, IsWellFormed}
use Rattle.omf_check.specs.declared.fault.CheckFault.{CheckFault}
use Rattle.omf_check.specs.declared.fault.CheckFault.TheVariants.{Memory, Read, Refused}
use Rattle.omf_check.specs.declared.judged.Judged.{Judged}
use Rattle.omf_check.specs.declared.profile.Profile.{Profile}

-- The input begins with a well-formed module with these numbers of records and bytes.
abbrev pub BeginsWith : Profile → List ℕ → ℕ → ℕ → Type 0
BeginsWith profile input count size = (records : List Raw) × (a : IsAccepted profile profile_limits input records) × (count ≡ length records) × (size ≡ length a.bytes)

-- The verdict on an input: the numbers of records and bytes of its module, or its refusal; after Memory and Read, nothing is claimed.
abbrev pub Judges : Profile → List ℕ → Result Judged CheckFault → Type 0
Judges profile input (Ok j) = BeginsWith profile input j.record_count j.size
Judges profile input (Err Memory) = ⊤
Judges profile input (Err Read) = ⊤
Judges profile input (Err (Refused why at)) = IsRefused profile profile_limits input why at

-- Exactly a well-formed module with these numbers of records and bytes was read. It holds also of a reader whose bytes are not known.
pub record HasRead (profile : Profile) (old new : Option (List ℕ)) (j : Judged) : Type 0 where
  pub bytes : List ℕ
  pub read : Consumes old new bytes
  pub well_formed : IsWellFormed profile profile_limits bytes (records_in bytes)
  pub record_count : j.record_count ≡ length (records_in bytes)
  pub size : j.size ≡ length bytes

-- Where the input begins with a module, the verdict has its numbers of records and bytes, unless memory ran out or the reader failed.
abbrev pub JudgingsAreCounts : Type 0
JudgingsAreCounts = (profile : Profile) (input : List ℕ) (count size : ℕ) (answer : Result Judged CheckFault) → BeginsWith profile input count size → Judges profile input answer
    → (answer ≡ Ok (record { record_count = count; size = size })) ⊎ (answer ≡ Err Memory) ⊎ (answer ≡ Err Read)
