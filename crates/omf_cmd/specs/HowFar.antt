-- How far a run reads the input: no further than decides its answer.
use Rattle.std.specs.Prelude.{◌≡◌, ◌⊎◌, ◌≤◌, ℕ, ◌+◌, List, ◌++◌, length, Option, Result, Err}
use Rattle.std.specs.Io.KnownBytes.{Consumes}
use Rattle.omf_frame.specs.Framing.{Raw}
use Rattle.omf_frame.specs.declared.fault.Place.{Place}
use Rattle.omf_frame.specs.declared.fault.Reason.{Reason}
use Rattle.omf_image.specs.Limits.{profile_limits}
use Rattle.omf_check.specs.Checking.{IsCheckFault, IsReadTo, IsUndecided}
use Rattle.omf_check.specs.WellFormed.{IsAccepted}
use Rattle.omf_check.specs.declared.fault.CheckFault.TheVariants as check
use Rattle.omf_check.specs.declared.profile.Profile.{Profile}
use Rattle.omf_cmd.specs.Outcome.{text_limit}
use Rattle.omf_cmd.specs.declared.fault.RunFault.{RunFault}
use Rattle.omf_cmd.specs.declared.fault.RunFault.TheVariants as fault

-- The bytes read are refused so, and are no more than decides that.
abbrev pub EndsAtRefusal : Profile → Option (List ℕ) → Option (List ℕ) → Reason → Place → Type 0
EndsAtRefusal profile old new why at = (read : List ℕ) × Consumes old new read × IsReadTo profile read new why at

-- The bytes read hold no refusal, as when a check runs out of memory.
abbrev pub IsUnrefused : Profile → Option (List ℕ) → Option (List ℕ) → Type 0
IsUnrefused profile old new = IsCheckFault profile old new 0 0 check.Memory

-- The input begins with a module of these records, and exactly its bytes are read.
pub record IsReadFrom (profile : Profile) (input : List ℕ) (records : List Raw) (old new : Option (List ℕ)) : Type 0 where
  pub accepted : IsAccepted profile profile_limits input records
  pub read : Consumes old new accepted.bytes

-- The input begins with a module, and its bytes and the next `count` are read.
pub record IsReadPast (profile : Profile) (input : List ℕ) (old new : Option (List ℕ)) (count : ℕ) : Type 0 where
  pub records : List Raw
  pub accepted : IsAccepted profile profile_limits input records
  pub text : List ℕ
  pub read : Consumes old new (accepted.bytes ++ text)
  pub counted : length text ≡ count

-- The bytes read are a module and a text within its limit.
abbrev pub IsReadWithin : Profile → List ℕ → Option (List ℕ) → Option (List ℕ) → Type 0
IsReadWithin profile input old new = (count : ℕ) × (count ≤ text_limit) × IsReadPast profile input old new count

-- How far `reloc` reads the input, by its answer: to where it is refused, to the first byte beyond the limit of the text, or to its end. If
-- memory ran out or the reader failed, the bytes read are not refused, and their text is not too long.
abbrev pub IsReadFor : Profile → List ℕ → Option (List ℕ) → Option (List ℕ) → Result (List ℕ) RunFault → Type 0
IsReadFor profile input old new (Err (fault.Refused why at)) = EndsAtRefusal profile old new why at
IsReadFor profile input old new (Err fault.TooLong) = IsReadPast profile input old new (text_limit + 1)
IsReadFor profile input old new (Err fault.Memory) = IsUnrefused profile old new ⊎ IsReadWithin profile input old new
IsReadFor profile input old new (Err fault.Read) = IsUndecided profile old new ⊎ IsReadWithin profile input old new
IsReadFor profile input old new _ = Consumes old new input
