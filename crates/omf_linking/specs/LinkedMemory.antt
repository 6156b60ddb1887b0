-- The memory of several modules (this profile's rule).
use Rattle.std.specs.Prelude.{List, Result, Ok, Err}
use Rattle.omf_image.specs.Overlay.{Laid}
use Rattle.omf_linking.specs.Space.Segments.{SegmentAt, IsMemoryOf}
use Rattle.omf_linking.specs.declared.fault.LinkFault.{LinkFault}
use Rattle.omf_linking.specs.declared.fault.LinkFault.TheVariants as fault
use Rattle.omf_linking.specs.declared.space.fault.MemoryFault.TheVariants as memory

-- The memory of all segments, as segment 0 of an image; or why they do not fit into one. Running out of memory hides no such fault.
abbrev pub IsLinkedMemory : List SegmentAt → Result (List Laid) LinkFault → Type 0
IsLinkedMemory ss (Ok image) = IsMemoryOf ss (Ok image)
IsLinkedMemory ss (Err fault.Memory) = IsMemoryOf ss (Err memory.Memory)
IsLinkedMemory ss (Err (fault.Space memory.Memory)) = ⊥
IsLinkedMemory ss (Err (fault.Space f)) = IsMemoryOf ss (Err f)
IsLinkedMemory ss (Err _) = ⊥
