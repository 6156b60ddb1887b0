-- A module's fault is one of its lowering and its check.
use Rattle.std.proofs.Common.{ℕ, List, inl}
use Rattle.omf_check.specs.declared.profile.Profile.{Profile}
use Rattle.omf_lowered.specs.Checked.{IsUnloweredBy}
use Rattle.omf_lowered.specs.Modules.{IsModuleFault}
use Rattle.omf_lowering.specs.declared.fault.LoweringFault.{LoweringFault}
use Rattle.omf_lowering.specs.declared.fault.LoweringFault.TheVariants as lowering

pub fault_is : (profile : Profile) (input : List ℕ) (f : LoweringFault) → IsModuleFault input f → IsUnloweredBy profile input f
fault_is profile input lowering.Memory h = tt
fault_is profile input (lowering.Refused why at) h = inl h
