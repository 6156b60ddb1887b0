-- The check of a module's lowering, with its fault at the place in the input (this profile's rule).
use Rattle.std.specs.Prelude.{◌⊎◌, ⊤, ℕ, List, Option, Some, None}
use Rattle.omf_frame.specs.declared.fault.Place.{Place}
use Rattle.omf_frame.specs.declared.fault.Reason.{Reason}
use Rattle.omf_image.specs.Limits.{profile_limits}
use Rattle.omf_check.specs.Refusal.{IsRefused}
use Rattle.omf_check.specs.declared.profile.Profile.{Profile}
use Rattle.omf_lowered.specs.Modules.{IsLoweredModule, IsModuleRefused}
use Rattle.omf_lowered.specs.Places.{IsPlaceIn}
use Rattle.omf_lowering.specs.declared.fault.LoweringFault.{LoweringFault}
use Rattle.omf_lowering.specs.declared.fault.LoweringFault.TheVariants as lowering

-- The check refuses the lowering of the module that an input begins with. The record at fault is at this place in the input, or the lowering wrote it.
pub record IsLoweringRefused (profile : Profile) (input : List ℕ) (why : Reason) (found : Option Place) : Type 0 where
  pub lowered : List ℕ
  pub rest : List ℕ
  pub there : Place
  pub lowering : IsLoweredModule input lowered rest
  pub refused : IsRefused profile profile_limits lowered why there
  pub place : IsPlaceIn input lowered there found

-- A module has no lowering, or the check refuses that, at this place in the input.
abbrev pub IsUnlowered : Profile → List ℕ → Reason → Place → Type 0
IsUnlowered profile input why at = IsModuleRefused input why at ⊎ IsLoweringRefused profile input why (Some at)

-- A module has a lowering, and the check refuses that at a record which the lowering wrote.
abbrev pub IsRefusedAsWritten : Profile → List ℕ → Type 0
IsRefusedAsWritten profile input = (why : Reason) × IsLoweringRefused profile input why None

-- The cause of a fault of a module's lowering and of its check. Memory may run out at any time.
abbrev pub IsUnloweredBy : Profile → List ℕ → LoweringFault → Type 0
IsUnloweredBy profile input lowering.Memory = ⊤
IsUnloweredBy profile input (lowering.Refused why at) = IsUnlowered profile input why at
