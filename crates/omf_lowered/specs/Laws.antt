-- Laws of the definitions, each the contract of a function of the same name.
use Rattle.std.specs.Prelude.{List, ℕ}
use Rattle.omf_frame.specs.Framing.{Raw}
use Rattle.omf_image.specs.declared.limits.Limits.{Limits}
use Rattle.omf_check.specs.WellFormed.{IsAccepted}
use Rattle.omf_check.specs.declared.profile.Profile.{Profile}
use Rattle.omf_lowered.specs.Modules.{IsLoweredModule}

-- A module that is accepted is its own lowering: no step changes it.
abbrev pub AcceptedStay : Type 0
AcceptedStay = (profile : Profile) (limits : Limits) (input : List ℕ) (records : List Raw) (a : IsAccepted profile limits input records) → IsLoweredModule input a.bytes a.rest
