-- The draft of a placement for a module.
use Rattle.std.specs.Prelude.{◌≡◌, ⊤, List, ℕ, Some, None, Result, Ok, Err}
use Rattle.omf_records.specs.Values.{Rec}
use Rattle.omf_layout.specs.declared.options.Options.{Options}
use Rattle.omf_layout.specs.Draft.{draft_text}
use Rattle.omf_layout.specs.Layout.{LaidOut, layout_of}
use Rattle.omf_drafting.specs.Fit.{FitsModule}
use Rattle.omf_layout.specs.Reading.{IsReadBack}
use Rattle.omf_cmd.specs.declared.fault.RunFault.TheVariants as run
use Rattle.omf_drafting.specs.declared.place.fault.PlaceFault.{PlaceFault}
use Rattle.omf_drafting.specs.declared.place.fault.PlaceFault.TheVariants as fault

-- A text is the draft for a module: that of its layout. It is a placement text with exactly the layout's entries. The placement that it
-- gives the module has no entry missing, none too many and none misplaced.
pub record IsDraft (o : Options) (m : List Rec) (text : List ℕ) : Type 0 where
  pub layout : LaidOut
  pub laid : layout_of o m ≡ Some layout
  pub text_is : text ≡ draft_text o.frames m layout
  pub read : IsReadBack o.frames m layout.places text
  pub fits : FitsModule m layout.places

-- The result for a module: its draft, or no room. Out of memory is possible in either case.
abbrev pub IsDrafted : Options → List Rec → Result (List ℕ) PlaceFault → Type 0
IsDrafted o m (Ok text) = IsDraft o m text
IsDrafted o m (Err fault.NoRoom) = layout_of o m ≡ None
IsDrafted o m (Err (fault.Run run.Memory)) = ⊤
IsDrafted o m (Err (fault.Run _)) = ⊥
