-- Why a file whose lowering has a fault gives no modules.
use Rattle.std.specs.Prelude.{◌≡◌, ⊤, ℕ, List, Some, None, false}
use Rattle.omf_frame.specs.declared.fault.Place.{Place}
use Rattle.omf_frame.specs.declared.fault.Reason.{Reason}
use Rattle.omf_linking.specs.declared.fault.LinkFault.{LinkFault}
use Rattle.omf_linking.specs.declared.fault.LinkFault.TheVariants as link
use Rattle.omf_lowered.specs.Files.{IsPlaceInFile}
use Rattle.omf_lowered.specs.declared.fault.FileFault.TheVariants as lowering
use Rattle.omf_exe.specs.declared.lowered.Unlowered.{Unlowered}
use Rattle.omf_exe.specs.declared.lowered.Unlowered.TheVariants as unlowered

-- The lowering is refused at a place in the module with this number: at a record of the file, or at none. Memory may run out at any time.
abbrev pub IsUnloweredAt : List ℕ → ℕ → Reason → Place → Unlowered → Type 0
IsUnloweredAt bytes number why there unlowered.Memory = ⊤
IsUnloweredAt bytes number why there (unlowered.Fault g) = (at : Place) × (g ≡ lowering.Refused number why at) × IsPlaceInFile bytes number there (Some at)
IsUnloweredAt bytes number why there unlowered.Refused = IsPlaceInFile bytes number there None

-- The lowering has this fault.
abbrev pub IsUnloweredBy : List ℕ → LinkFault → Unlowered → Type 0
IsUnloweredBy bytes link.Memory u = u ≡ unlowered.Memory
IsUnloweredBy bytes (link.Refused number why there) u = IsUnloweredAt bytes number why there u
IsUnloweredBy bytes _ u = u ≡ unlowered.Refused
