-- How faults of a text, of placements, of derived places and of segments in memory become faults of a link.
use Rattle.std.specs.Prelude.{ℕ, List, filter_map, Option, option_map}
use Rattle.std.specs.List.{enumerate_from}
use Rattle.omf_placement.specs.Derive.{PlacedModule}
use Rattle.omf_reloc.specs.declared.fault.ReachFault.{ReachFault}
use Rattle.omf_placement.specs.declared.several.fault.DeriveFault.{DeriveFault}
use Rattle.omf_placement.specs.declared.several.fault.DeriveFault.TheVariants as derive
use Rattle.omf_linking.specs.declared.space.fault.MemoryFault.{MemoryFault}
use Rattle.omf_linking.specs.declared.space.fault.MemoryFault.TheVariants as memory
use Rattle.omf_linking.specs.declared.locator.fault.LocatorFault.{LocatorFault}
use Rattle.omf_linking.specs.declared.locator.fault.LocatorFault.TheVariants as locator
use Rattle.omf_linking.specs.declared.fault.LinkFault.{LinkFault}
use Rattle.omf_linking.specs.declared.fault.LinkFault.TheVariants as fault

abbrev pub of_locator : LocatorFault → LinkFault
of_locator locator.Memory = fault.Memory
of_locator (locator.Line n why) = fault.Line n why

abbrev pub of_derive : DeriveFault → LinkFault
of_derive derive.Memory = fault.Memory
of_derive f = fault.External f

abbrev pub of_memory : MemoryFault → LinkFault
of_memory memory.Memory = fault.Memory
of_memory f = fault.Space f

-- The modules whose placements have a fault, each with its first.
abbrev pub far_by : (PlacedModule → Option ReachFault) → ℕ × PlacedModule → Option LinkFault
far_by g m = option_map (λ f. fault.Reach m.0 f) (g m.1)

abbrev pub all_far : (PlacedModule → Option ReachFault) → List PlacedModule → List LinkFault
all_far g ms = filter_map (far_by g) (enumerate_from 0 ms)
