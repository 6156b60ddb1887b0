-- The results of a check, and how far it reads.
use Rattle.omf_frame.specs.Framing.{is_end_of_input}
use Rattle.std.specs.Prelude.{◌≡◌, ◌⊎◌, ◌<◌, IsTrue, ⊤, ℕ, List, codes, drop, length, Option, Result, Ok, Err}
use Rattle.std.specs.Io.KnownBytes.{Consumes, IsAtEnd}
use Rattle.omf_frame.specs.Device.{Device, HasFailed, GivesUp}
use Rattle.omf_frame.specs.declared.fault.Place.{Place}
use Rattle.omf_frame.specs.declared.fault.Reason.{Reason}
use Rattle.omf_image.specs.Limits.{profile_limits}
use Rattle.omf_check.specs.Module.{Module, records_in}
use Rattle.omf_check.specs.Refusal.{IsRefused, EndsWhereJudged, AreSoundSoFar}
use Rattle.omf_check.specs.WellFormed.{IsAccepted}
use Rattle.omf_check.specs.declared.fault.CheckFault.{CheckFault}
use Rattle.omf_check.specs.declared.fault.CheckFault.TheVariants.{Memory, Read, Refused}
use Rattle.omf_check.specs.declared.profile.Profile.{Profile}

-- The bytes read are refused for this reason at this place, and no more was read than this needs: all of the input if it ends too early,
-- else up to where the record at fault is refused.
abbrev pub IsReadTo : Profile → List ℕ → Option (List ℕ) → Reason → Place → Type 0
IsReadTo profile read left why at =
    IsRefused profile profile_limits read why at × ((IsTrue (is_end_of_input why) × IsAtEnd left) ⊎ EndsWhereJudged why (drop at.start read))

-- The bytes read, possibly none, have no refusal other than for ending too early.
abbrev pub IsUndecided : Profile → Option (List ℕ) → Option (List ℕ) → Type 0
IsUndecided profile old new = (read : List ℕ) × Consumes old new read × AreSoundSoFar profile profile_limits read

-- The cause of each fault of a check, and the bytes read from a reader whose bytes are known. After Read and Memory the bytes read are
-- undecided; after Memory they are at least one.
abbrev pub IsCheckFault : Profile → Option (List ℕ) → Option (List ℕ) → ℕ → ℕ → CheckFault → Type 0
IsCheckFault profile old new failed fails Memory = (read : List ℕ) × Consumes old new read × AreSoundSoFar profile profile_limits read × (0 < length read)
IsCheckFault profile old new failed fails Read = HasFailed failed fails × IsUndecided profile old new
IsCheckFault profile old new failed fails (Refused why at) = (read : List ℕ) × Consumes old new read × IsReadTo profile read new why at

-- Only interruptions of the reader are retried: Read means one failure of another kind, or a thousand interruptions; with every other
-- result the reader had no failure but interruptions.
abbrev pub IsReadPatiently : {A : Type 0} → Device → Device → Result A CheckFault → Type 0
IsReadPatiently old new (Err Read) = GivesUp old new
IsReadPatiently old new _ = new.breaks ≡ old.breaks

-- What a fault of a check means.
abbrev pub check_sentence : CheckFault → List ℕ
check_sentence Memory = codes "memory ran out"
check_sentence Read = codes "the input could not be read"
check_sentence (Refused why at) = codes "the input does not begin with a well-formed module"

-- The result of a check for an input: the module it begins with, or its refusal; after Memory and Read, nothing is claimed.
abbrev pub Decides : Profile → List ℕ → Result Module CheckFault → Type 0
Decides profile input (Ok m) = (m.profile ≡ profile) × ((a : IsAccepted profile profile_limits input (records_in m.bytes)) × (a.bytes ≡ m.bytes))
Decides profile input (Err Memory) = ⊤
Decides profile input (Err Read) = ⊤
Decides profile input (Err (Refused why at)) = IsRefused profile profile_limits input why at
