-- Laws about the definitions, each the contract of a function of the same name.
use Rattle.std.specs.Prelude.{◌≡◌, ◌+◌, ◌-◌, ◌<◌, ◌≤◌, ℕ, List, Contains, true, false, is_some, Option, Some}
use Rattle.omf_check.specs.Sound.{ModuleHolds}
use Rattle.omf_check.specs.Tables.{entry}
use Rattle.omf_placement.specs.declared.frame.Placed.{Placed}
use Rattle.omf_finding.specs.Agrees.{Agrees}
use Rattle.omf_finding.specs.Found.{IsFound}
use Rattle.omf_finding.specs.Places.{places}
use Rattle.omf_finding.specs.Run.{cells}
use Rattle.omf_frame.specs.Bytes.{is_one_of}
use Rattle.omf_records.specs.Values.{Rec}
use Rattle.omf_image.specs.Limits.{profile_limits}
use Rattle.omf_placement.specs.Placement.{Places}
use Rattle.omf_reloc.specs.Image.{image}
use Rattle.omf_finding.specs.Pattern.{pattern}

-- At a placement, the image has a byte exactly where the pattern has one, and it is the pattern's own where that is closed.
pub record HasPattern (pl : Places) (m : List Rec) : Type 0 where
  pub same_places : (segment x : ℕ) → is_some (image profile_limits pl m segment x) ≡ is_some (pattern profile_limits m segment x)
  pub closed_bytes : (segment x b : ℕ) → pattern profile_limits m segment x ≡ Some (record { value = b; is_open = false }) → image profile_limits pl m segment x ≡ Some b

-- Bytes of a pattern are at their address in a program, and `places` has the place.
pub record LiesAtItsPlace (bytes : List (Option ℕ)) (program : List ℕ) (base address : ℕ) : Type 0 where
  pub above : base ≤ address
  pub listed : Contains (places bytes program) (address - base)

-- If a module is found at a placement, each interval of its pattern in a segment that is not absent, whole or in part, is at the address that the placement gives it. So a
-- search by `places` misses no module that is there.
abbrev pub FoundAreListed : Type 0
FoundAreListed = (m : List Rec) (pl : Places) (absent program : List ℕ) (base segment first len : ℕ) (place : Placed) → ModuleHolds profile_limits m → IsFound m pl absent program base → is_one_of absent segment ≡ false
    → entry pl.segments segment ≡ Some place → 0 < len → ((i : ℕ) → i < len → is_some (pattern profile_limits m segment (first + i)) ≡ true)
    → LiesAtItsPlace (cells (pattern profile_limits m segment) first len) program base (place.address + first)

-- If a module is found at a placement, each of its segments that is not absent agrees with the program at its address. So of a module that is NotThere, no
-- placement has a segment in the program that is searched for.
abbrev pub FoundAgree : Type 0
FoundAgree = (m : List Rec) (pl : Places) (absent program : List ℕ) (base segment : ℕ) (place : Placed) → ModuleHolds profile_limits m → IsFound m pl absent program base → is_one_of absent segment ≡ false
    → entry pl.segments segment ≡ Some place → Agrees (pattern profile_limits m segment) program base place.address
