-- The memory image of several modules as text, or why there is none (a rule of this profile).
use Rattle.std.specs.Prelude.{◌≡◌, ◌⊎◌, ℕ, List, false, Result, Ok, Err}
use Rattle.omf_check.specs.declared.profile.Profile.{Profile}
-- computed, and proved equal to the rule: runs_are_maximal of omf_image.
use Rattle.omf_image.specs.Inner.Joined.{runs_of}
use Rattle.omf_image.specs.Overlay.{byte_at}
use Rattle.omf_placement.specs.Placement.{Places}
use Rattle.omf_records.specs.Values.{Rec}
use Rattle.omf_linking.specs.Placing.{IsOutcome, linked, stored_by}
use Rattle.omf_linking.specs.Together.{AreOne, IsTogether}
use Rattle.omf_linking.specs.declared.fault.LinkFault.{LinkFault}
use Rattle.omf_linking.specs.declared.together.Together.{Together}
use Rattle.omf_linker.specs.Link.MemoryText.{image_text}
use Rattle.omf_linker.specs.declared.link.linking.LinkedModules.{LinkedModules}

-- Modules at the placements of a link text: the memory that they share, where the text stores them, and their start address.
pub record AreTogether (ms : List (List Rec)) (text : List ℕ) : Type 0 where
  pub placements : List Places
  pub placed : linked ms text ≡ Ok placements
  pub together : Together
  pub are : AreOne ms placements (stored_by ms text placements) together

-- The text for modules and a link text: the bytes of their memory, and their start address.
abbrev pub IsShown : List (List Rec) → List ℕ → List ℕ → Type 0
IsShown ms text shown = (t : AreTogether ms text) × (shown ≡ image_text (byte_at t.together.memory 0) (runs_of t.together.memory 0) t.together.start)

-- Linked modules are at the placements of the text and stored where it stores them, and this is their memory and their start.
pub record AreLinkedUp (ms : List (List Rec)) (text : List ℕ) (l : LinkedModules) : Type 0 where
  pub placed : linked ms text ≡ Ok l.placements.items
  pub stored : l.stored.items ≡ stored_by ms text l.placements.items
  pub are : AreOne ms l.placements.items l.stored.items l.together

-- Why there is none, in this order: the link text gives no placements; a module does not reach at its own; the segments do not fit in one memory; two modules have
-- a start address. Out of memory is possible at any time.

-- The link text gives no placements.
abbrev pub IsUnplaced : List (List Rec) → List ℕ → LinkFault → Type 0
IsUnplaced ms text f = IsOutcome {A = List Places} (linked ms text) (Err f)

-- It gives them, and the modules are not one there.
abbrev pub AreNotOne : List (List Rec) → List ℕ → LinkFault → Type 0
AreNotOne ms text f = (pls : List Places) × (linked ms text ≡ Ok pls) × IsTogether ms pls (stored_by ms text pls) (Err f)

-- The first of these.
abbrev pub IsFirstFault : List (List Rec) → List ℕ → LinkFault → Type 0
IsFirstFault ms text f = IsUnplaced ms text f ⊎ AreNotOne ms text f

-- The modules are linked, or this is the first fault.
abbrev pub AreLinked : List (List Rec) → List ℕ → Result LinkedModules LinkFault → Type 0
AreLinked ms text (Ok l) = AreLinkedUp ms text l
AreLinked ms text (Err f) = IsFirstFault ms text f

-- The result for modules and a link text: their image as text, or the first fault.
abbrev pub IsLinked : List (List Rec) → List ℕ → Result (List ℕ) LinkFault → Type 0
IsLinked ms text (Ok shown) = IsShown ms text shown
IsLinked ms text (Err f) = IsFirstFault ms text f

-- The profile: comments of all classes are accepted.
abbrev pub any : Profile
any = record { refuse_vendor_comments = false }
