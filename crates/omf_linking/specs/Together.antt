-- Modules at their placements as one: the memory that they share, and their start (this profile's rule).
use Rattle.std.specs.Prelude.{◌≡◌, ◌⊎◌, ℕ, List, zip, Option, Result, Ok, Err}
use Rattle.std.specs.List.{AllZip}
use Rattle.omf_image.specs.Overlay.{Laid}
use Rattle.omf_placement.specs.Placement.{Places}
use Rattle.omf_records.specs.Values.{Rec}
use Rattle.omf_linking.specs.LinkedMemory.{IsLinkedMemory}
use Rattle.omf_linking.specs.Relocated.{AreRelocated, IsRelocated}
use Rattle.omf_linking.specs.Segments.{all_segments, stored_images}
use Rattle.omf_linking.specs.Space.Segments.{SegmentAt, AreLaid}
use Rattle.omf_linking.specs.Starts.{main_starts, one_start}
use Rattle.omf_linking.specs.declared.fault.LinkFault.{LinkFault}
use Rattle.omf_linking.specs.declared.relocated.Relocated.{Relocated}
use Rattle.omf_linking.specs.declared.together.Together.{Together}

-- Each module reaches at its placement: it has an image and a start there.
pub record AreAt (ms : List (List Rec)) (pls : List Places) : Type 0 where
  pub relocated : List Relocated
  pub each : AllZip IsRelocated (zip ms pls) relocated

-- The segments of modules where they are stored, each with its bytes as relocated at the placements where the modules run.
abbrev pub segments_of : List (List Rec) → List Places → List Places → List SegmentAt
segments_of ms pls stored = all_segments (stored_images (zip ms pls) stored)

-- The start address of modules.
abbrev pub start_of : List (List Rec) → List Relocated → Result (Option (ℕ × ℕ)) LinkFault
start_of ms rs = one_start (main_starts (zip ms rs))

-- Each reaches, and this is their memory and their start.
pub record AreOne (ms : List (List Rec)) (pls stored : List Places) (t : Together) : Type 0 where
  pub at : AreAt ms pls
  pub laid : AreLaid (segments_of ms pls stored) t.memory
  pub starts : start_of ms at.relocated ≡ Ok t.start

-- A module does not reach at its placement; or the segments do not fit in one memory; or two modules have a start address.
abbrev pub IsFar : List (List Rec) → List Places → LinkFault → Type 0
IsFar ms pls f = AreRelocated (zip ms pls) (Err f)

abbrev pub IsNotLaid : List (List Rec) → List Places → List Places → LinkFault → Type 0
IsNotLaid ms pls stored f = AreAt ms pls × IsLinkedMemory (segments_of ms pls stored) (Err f)

abbrev pub HasStarts : List (List Rec) → List Places → List Places → LinkFault → Type 0
HasStarts ms pls stored f = (at : AreAt ms pls) × ((memory : List Laid) × AreLaid (segments_of ms pls stored) memory) × (start_of ms at.relocated ≡ Err f)

-- The modules as one, or the first of these faults.
abbrev pub IsTogether : List (List Rec) → List Places → List Places → Result Together LinkFault → Type 0
IsTogether ms pls stored (Ok t) = AreOne ms pls stored t
IsTogether ms pls stored (Err f) = IsFar ms pls f ⊎ (IsNotLaid ms pls stored f ⊎ HasStarts ms pls stored f)
