-- Why a module has no image at a placement: the first fault of reach; or memory ran out, and the placement reaches.
use Rattle.std.specs.Prelude.{◌≡◌, List, Some}
use Rattle.omf_records.specs.Values.{Rec}
use Rattle.omf_placement.specs.Placement.{Places}
use Rattle.omf_reloc.specs.Reach.{Reaches, reach_fault}
use Rattle.omf_reloc.specs.declared.fault.RelocateFault.{RelocateFault}
use Rattle.omf_reloc.specs.declared.fault.RelocateFault.TheVariants as fault

abbrev pub IsRelocateFault : Places → List Rec → RelocateFault → Type 0
IsRelocateFault pl m (fault.Reach f) = reach_fault pl m ≡ Some f
IsRelocateFault pl m fault.Memory = Reaches pl m
