-- The results of the library's uses.
use Rattle.std.specs.Prelude.{◌≡◌, ⊤, ℕ, List, [], ◌∷◌, Some, None, Result, Ok, Err, codes, false}
use Rattle.omf_frame.specs.Device.{Device}
use Rattle.omf_records.specs.Values.{Rec}
use Rattle.omf_image.specs.Limits.{profile_limits}
use Rattle.omf_image.specs.Overlay.{Laid, byte_at}
use Rattle.omf_check.specs.Checking.{Decides, IsReadPatiently}
use Rattle.omf_check.specs.Module.{Module}
use Rattle.omf_check.specs.declared.fault.CheckFault.{CheckFault}
use Rattle.omf_check.specs.declared.profile.Profile.{Profile}
use Rattle.omf_cmd.specs.FaultLine.{fault_line}
use Rattle.omf_cmd.specs.Reports.{of_check}
use Rattle.omf_cmd.specs.declared.fault.RunFault.{RunFault}
use Rattle.omf_cmd.specs.declared.fault.RunFault.TheVariants as fault
use Rattle.omf_reloc.specs.Image.{image}
use Rattle.omf_placement.specs.Placement.{Places}
use Rattle.omf_reloc.specs.Reach.{reach_fault}

-- Comments of vendors' classes are accepted.
abbrev pub lenient : Profile
lenient = record { refuse_vendor_comments = false }

-- The line for a result of the check.
abbrev pub said : Result Module CheckFault → List ℕ
said (Ok m) = codes "OK"
said (Err f) = fault_line (of_check f)

-- The line for the result of the check on an input. `read` is reported only if the reader failed.
abbrev pub IsVerdict : Device → Device → List ℕ → List ℕ → Type 0
IsVerdict old new input line = (judged : Result Module CheckFault) × Decides lenient input judged × IsReadPatiently old new judged × (line ≡ said judged)

-- One segment, at 7C00H in the frame with base 0.
abbrev pub boot_place : Places
boot_place = record {
  segments = record { address = 0x7C00; frame = record { base = 0; selector = 0 } } ∷ [];
  groups = [];
  externals = [];
}

-- The placement reaches, and this is exactly the image; or this is the first fault of reach.
abbrev pub IsBootImage : List Rec → Result (List Laid) RunFault → Type 0
IsBootImage m (Ok made) = (reach_fault boot_place m ≡ None) × ((segment x : ℕ) → byte_at made segment x ≡ image profile_limits boot_place m segment x)
IsBootImage m (Err fault.Memory) = ⊤
IsBootImage m (Err (fault.Reach f)) = reach_fault boot_place m ≡ Some f
IsBootImage m (Err _) = ⊥
