-- Placements as arrays of rows, and what is made of a module at a placement (this profile's rule).
use Rattle.std.specs.Prelude.{◌≡◌, ⊤, ℕ, List, map, Some, None, Result, Ok, Err}
use Rattle.omf_frame.specs.Framing.{Raw}
use Rattle.omf_records.specs.Values.{Rec}
use Rattle.omf_image.specs.Limits.{profile_limits}
use Rattle.omf_check.specs.WellFormed.{IsAccepted, recs}
use Rattle.omf_check.specs.declared.profile.Profile.{Profile}
use Rattle.omf_placement.specs.Placement.{Places}
use Rattle.omf_placement.specs.declared.frame.Frame.{Frame}
use Rattle.omf_placement.specs.declared.frame.Placed.{Placed}
use Rattle.omf_reloc.specs.Reach.{reach_fault}
use Rattle.omf_cmd.specs.declared.fault.RunFault.{RunFault}
use Rattle.omf_cmd.specs.declared.fault.RunFault.TheVariants as fault
use Rattle.omf_c.specs.Images.{ShowsImage, image_shown}
use Rattle.omf_c.specs.Making.{IsNoModule}
use Rattle.omf_c.specs.Runs.{Shown}
use Rattle.omf_c.specs.declared.answer.Answer.{Answer}
use Rattle.omf_c.specs.declared.rows.FrameRow.{FrameRow}
use Rattle.omf_c.specs.declared.rows.PlaceRow.{PlaceRow}
use Rattle.omf_c.specs.declared.rows.PlacementRows.{PlacementRows}
use Rattle.omf_c.specs.declared.rows.RunRow.{RunRow}

-- The placement that rows give: an entry for each row, in order.
abbrev pub placed : PlaceRow → Placed
placed r = record { address = r.address; frame = record { base = r.base; selector = r.selector } }

abbrev pub framed : FrameRow → Frame
framed r = record { base = r.base; selector = r.selector }

abbrev pub places_of : PlacementRows → Places
places_of g = record { segments = map placed g.segments.now; groups = map framed g.groups.now; externals = map placed g.externals.now }

-- What is made of a module at a placement, or the first reason why the placement does not reach. Memory may run out at any time.
abbrev pub IsMadeFor : {A : Type 0} → (Places → List Rec → A) → Places → List Rec → Result A RunFault → Type 0
IsMadeFor make pl m (Ok made) = (reach_fault pl m ≡ None) × (made ≡ make pl m)
IsMadeFor make pl m (Err fault.Memory) = ⊤
IsMadeFor make pl m (Err fault.Read) = ⊥
IsMadeFor make pl m (Err fault.Write) = ⊥
IsMadeFor make pl m (Err (fault.Refused why at)) = ⊥
IsMadeFor make pl m (Err (fault.Line n)) = ⊥
IsMadeFor make pl m (Err fault.TooLong) = ⊥
IsMadeFor make pl m (Err (fault.Reach f)) = reach_fault pl m ≡ Some f

-- The same for the module at the start of some bytes.
abbrev pub HasMadeFor : {A : Type 0} → (Places → List Rec → A) → Profile → List ℕ → Places → Result A RunFault → Type 0
HasMadeFor make profile bytes pl r = (records : List Raw) × IsAccepted profile profile_limits bytes records × IsMadeFor make pl (recs records) r

abbrev pub IsMadeWith : {A : Type 0} → (Places → List Rec → A) → Profile → List ℕ → Places → Result A RunFault → Type 0
IsMadeWith make profile bytes pl (Ok made) = HasMadeFor make profile bytes pl (Ok made)
IsMadeWith make profile bytes pl (Err (fault.Reach f)) = HasMadeFor make profile bytes pl (Err (fault.Reach f))
IsMadeWith make profile bytes pl (Err f) = IsNoModule profile bytes f

-- A call made the image of a module at a placement, or a fault, and returned the result for it.
abbrev pub IsImageAnsweredAt : Profile → List ℕ → Places → Answer → List RunRow × List ℕ → List RunRow × List ℕ → Type 0
IsImageAnsweredAt profile bytes pl answer old new = (made : Result Shown RunFault) × IsMadeWith image_shown profile bytes pl made × ShowsImage made answer old new
