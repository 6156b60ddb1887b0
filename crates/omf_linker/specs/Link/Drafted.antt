-- The draft of a link text for several modules, or why there is none.
use Rattle.std.specs.Prelude.{◌≡◌, ⊤, ℕ, List, Some, None, Result, Ok, Err}
use Rattle.omf_records.specs.Values.{Rec}
use Rattle.omf_placement.specs.Placement.{Places}
use Rattle.omf_layout.specs.Layout.{Laid}
use Rattle.omf_layout.specs.declared.options.Options.{Options}
use Rattle.omf_layout.specs.Several.Placing.{arranged_places}
use Rattle.omf_drafting.specs.Reading.{IsReadBack}
use Rattle.omf_drafting.specs.Text.{drafted}
use Rattle.omf_linking.specs.declared.fault.LinkFault.TheVariants as link
use Rattle.omf_lines.specs.declared.fault.ImageFault.{ImageFault}
use Rattle.omf_lines.specs.declared.fault.ImageFault.TheVariants as fault

-- A text is the draft for modules with these options. Read again, it gives the modules the places of their segments and groups.
pub record IsDraft (o : Options) (ms : List (List Rec)) (text : List ℕ) : Type 0 where
  pub text_is : drafted o ms ≡ Some text
  pub read : (l : Laid (List Places)) → arranged_places o ms ≡ Some l → IsReadBack ms l.what text

-- The result for modules: their draft, or no room. Out of memory is possible in either case.
abbrev pub IsDrafted : Options → List (List Rec) → Result (List ℕ) ImageFault → Type 0
IsDrafted o ms (Ok text) = IsDraft o ms text
IsDrafted o ms (Err fault.NoRoom) = drafted o ms ≡ None
IsDrafted o ms (Err (fault.Link link.Memory)) = ⊤
IsDrafted o ms (Err _) = ⊥
