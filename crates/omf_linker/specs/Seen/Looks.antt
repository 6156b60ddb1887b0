-- What a task of `omf-link` prints about what its link text does unseen (this profile's rule). Only what puts modules into memory is looked at: an image, or a file
-- for a chip.
use Rattle.std.specs.Prelude.{◌≡◌, ⊤, ℕ, Bool, not, List, [], filter, Option, Some, None, Ok, true, false, string_bytes, if◌then◌else◌}
use Rattle.std.specs.List.{AllZip}
use Rattle.omf_check.specs.Module.{Module, typed_modules}
use Rattle.omf_placement.specs.Placement.{Places}
use Rattle.omf_records.specs.Values.{Rec}
use Rattle.omf_linking.specs.File.{InputFile}
use Rattle.omf_linking.specs.Folded.{IsFolded}
use Rattle.omf_linking.specs.FoldedText.{folded_text}
use Rattle.omf_linking.specs.PlainText.{plain_text}
use Rattle.omf_linking.specs.Placing.{linked}
use Rattle.omf_linking.specs.Reading.{AreModules}
use Rattle.omf_linker.specs.Link.Files.{AreLabeled}
use Rattle.omf_linker.specs.Link.Linked.{any}
use Rattle.omf_externals.specs.Repeated.{IsRepeatedText}
use Rattle.omf_externals.specs.Unresolved.{all_rows}
use Rattle.omf_warnings.specs.Lines.{HasLines}
use Rattle.omf_warnings.specs.Unseen.{AreUnseen}
use Rattle.omf_linker.specs.declared.link.words.Task.{Task}
use Rattle.omf_linker.specs.declared.link.words.Task.TheVariants as task
use Rattle.omf_warnings.specs.declared.allowed.Allowed.{Allowed}
use Rattle.omf_linker.specs.declared.seen.files.SeenLines.{SeenLines}
use Rattle.omf_warnings.specs.declared.finding.Finding.{Finding as Found}
use Rattle.omf_warnings.specs.Allowing.{is_allowed}

-- What counts as a warning, or as a fault.
abbrev pub counts : Allowed → Bool → Found → Bool
counts a true f = is_allowed a f
counts a false f = not (is_allowed a f)

-- So do names that more than one public has.
abbrev pub counts_twice : Allowed → Bool → Bool
counts_twice a true = a.twice
counts_twice a false = not a.twice

abbrev pub repeated_by : Bool → List ℕ → List ℕ
repeated_by b lines = if b then lines else []

-- What a look at modules at these placements finds: the lines of faults and of warnings.
pub record AreFound (a : Allowed) (labels : List (List ℕ)) (ms : List Module) (pls : List Places) (l : SeenLines) : Type 0 where
  pub found : List Found
  pub unseen : AreUnseen ms pls found
  pub repeated : List ℕ
  pub twice : IsRepeatedText labels (all_rows (typed_modules ms)) repeated
  pub faults : HasLines labels (typed_modules ms) (filter (counts a false) found) (repeated_by (not a.twice) repeated) (string_bytes l.faults)
  pub warnings : HasLines labels (typed_modules ms) (filter (counts a true) found) (repeated_by a.twice repeated) (string_bytes l.warnings)

-- The placements that a text gives modules, if a task puts them into memory.
abbrev pub ArePlaced : Task → List (List Rec) → List ℕ → Option (List Places) → Type 0
ArePlaced task.Image ms text (Some pls) = linked ms text ≡ Ok pls
ArePlaced (task.Rom f) ms text (Some pls) = linked ms text ≡ Ok pls
ArePlaced task.Map ms text None = ⊤
ArePlaced (task.Draft o) ms text None = ⊤
ArePlaced t ms text pls = ⊥

-- What is found at them; without placements there are no lines.
abbrev pub AreFoundAt : Allowed → List (List ℕ) → List Module → Option (List Places) → SeenLines → Type 0
AreFoundAt a labels ms None l = (string_bytes l.faults ≡ []) × (string_bytes l.warnings ≡ [])
AreFoundAt a labels ms (Some pls) l = AreFound a labels ms pls l

-- What is found in modules where a link text puts them.
abbrev pub AreLooked : Task → Allowed → List (List ℕ) → List Module → List ℕ → SeenLines → Type 0
AreLooked t a labels ms text l = (pls : Option (List Places)) × ArePlaced t (typed_modules ms) text pls × AreFoundAt a labels ms pls l

-- The same for a link text as a person writes it; and with all names in lower case.
abbrev pub AreLookedIn : Task → Allowed → List (List ℕ) → List Module → List ℕ → SeenLines → Type 0
AreLookedIn t a labels ms text l = AreLooked t a labels ms (plain_text text) l

abbrev pub AreLookedFolded : Task → Allowed → List (List ℕ) → List Module → List ℕ → SeenLines → Type 0
AreLookedFolded t a labels ms text l = (ns : List Module) × AllZip IsFolded ms ns × AreLookedIn t a labels ns (folded_text (plain_text text)) l

-- The same for the modules of files, or of an input.
abbrev pub Looks : Type 1
Looks = List (List ℕ) → List Module → List ℕ → SeenLines → Type 0

abbrev pub AreLookedFrom : Looks → List InputFile → List ℕ → SeenLines → Type 0
AreLookedFrom Looked files text l = (ms : List Module) × (labels : List (List ℕ)) × AreLabeled files ms labels × Looked labels ms text l

abbrev pub AreLookedOf : Looks → List ℕ → SeenLines → Type 0
AreLookedOf Looked input l = (ms : List Module) × (text : List ℕ) × AreModules any input (Ok (ms, text)) × Looked [] ms text l
