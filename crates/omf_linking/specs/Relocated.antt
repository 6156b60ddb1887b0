-- Modules at their placements (this profile's rule).
use Rattle.std.specs.Prelude.{◌≡◌, ℕ, List, [], Option, Some, None, Result, Ok, Err, slice_get}
use Rattle.std.specs.List.{AllZip}
use Rattle.omf_placement.specs.Derive.{PlacedModule}
use Rattle.omf_image.specs.Limits.{profile_limits}
use Rattle.omf_image.specs.Overlay.{byte_at}
use Rattle.omf_reloc.specs.Image.{image, start}
use Rattle.omf_reloc.specs.Reach.{Reaches, reach_fault}
use Rattle.omf_reloc.specs.declared.fault.ReachFault.{ReachFault}
use Rattle.omf_linking.specs.Faults.{all_far}
use Rattle.omf_linking.specs.declared.fault.LinkFault.{LinkFault}
use Rattle.omf_linking.specs.declared.fault.LinkFault.TheVariants as fault
use Rattle.omf_linking.specs.declared.relocated.Relocated.{Relocated}

-- A module at its placement: it reaches, and this is its image and its start.
pub record IsRelocated (m : PlacedModule) (r : Relocated) : Type 0 where
  pub reaches : Reaches m.1 m.0
  pub bytes : (segment x : ℕ) → byte_at r.image segment x ≡ image profile_limits m.1 m.0 segment x
  pub starts : r.start ≡ start m.1 m.0

-- The module with this number is relocated, or this is the first reason why it does not reach; running out of memory hides no such reason.
abbrev pub IsRelocation : ℕ → PlacedModule → Result Relocated LinkFault → Type 0
IsRelocation j m (Ok r) = IsRelocated m r
IsRelocation j m (Err fault.Memory) = reach_fault m.1 m.0 ≡ None
IsRelocation j m (Err (fault.Reach k f)) = (k ≡ j) × (reach_fault m.1 m.0 ≡ Some f)
IsRelocation j m (Err _) = ⊥

-- The modules whose placements do not reach, each with its first fault.
abbrev pub first_fault : PlacedModule → Option ReachFault
first_fault m = reach_fault m.1 m.0

abbrev pub far_modules : List PlacedModule → List LinkFault
far_modules ms = all_far first_fault ms

-- All modules are relocated, or this is the first that does not reach; running out of memory hides none.
abbrev pub AreRelocated : List PlacedModule → Result (List Relocated) LinkFault → Type 0
AreRelocated ms (Ok rs) = AllZip IsRelocated ms rs
AreRelocated ms (Err fault.Memory) = far_modules ms ≡ []
AreRelocated ms (Err f) = slice_get (far_modules ms) 0 ≡ Some f
