-- A task of `omf-link` with names compared without case (`--ignore-case`; this profile's rule): that for the folded modules and the folded text.
use Rattle.std.specs.Prelude.{◌≡◌, ◌⊎◌, ℕ, List, [], map, Result, Ok, Err}
use Rattle.omf_check.specs.Module.{Module, typed_modules}
use Rattle.omf_linking.specs.File.{InputFile}
use Rattle.omf_linking.specs.Reading.{AreModules}
use Rattle.omf_linking.specs.declared.fault.LinkFault.TheVariants as link
use Rattle.omf_linking.specs.Folded.{folded}
use Rattle.omf_linking.specs.FoldedText.{folded_text}
use Rattle.omf_linking.specs.PlainText.{plain_text}
use Rattle.omf_linker.specs.Link.Files.{AreLabeled, IsFileRefused}
use Rattle.omf_linker.specs.Link.Linked.{any}
use Rattle.omf_linker.specs.Link.Shown.{AreShown, IsNoModule}
use Rattle.omf_lines.specs.declared.fault.ImageFault.{ImageFault}
use Rattle.omf_lines.specs.declared.fault.ImageFault.TheVariants as image
use Rattle.omf_lines.specs.declared.files_fault.FilesFault.{FilesFault}
use Rattle.omf_lines.specs.declared.files_fault.FilesFault.TheVariants as fault
use Rattle.omf_linker.specs.declared.link.words.Task.{Task}

-- The result of a task for these modules, by their labels, and this text, all folded.
abbrev pub IsShownFolded : Task → List (List ℕ) → List Module → List ℕ → Result (List ℕ) ImageFault → Type 0
IsShownFolded t labels ms text r = AreShown t labels (map folded (typed_modules ms)) (folded_text (plain_text text)) r

-- The same, where the fault is one of a link.
abbrev pub IsShownFoldedAs : Task → List (List ℕ) → List Module → List ℕ → Result (List ℕ) FilesFault → Type 0
IsShownFoldedAs t labels ms text (Ok shown) = IsShownFolded t labels ms text (Ok shown)
IsShownFoldedAs t labels ms text (Err (fault.Link f)) = IsShownFolded t labels ms text (Err f)
IsShownFoldedAs t labels ms text (Err (fault.File f front)) = ⊥

-- The files hold modules, and this is the result for them.
abbrev pub AreFoldedFrom : Task → List InputFile → List ℕ → Result (List ℕ) ImageFault → Type 0
AreFoldedFrom t files text r = (ms : List Module) × (labels : List (List ℕ)) × AreLabeled files ms labels × IsShownFolded t labels ms text r

-- The result for files: that for their modules; or the first file at fault, by its name. Memory may run out at any time.
abbrev pub AreFilesFolded : Task → List InputFile → List ℕ → Result (List ℕ) FilesFault → Type 0
AreFilesFolded t files text (Ok shown) = AreFoldedFrom t files text (Ok shown)
AreFilesFolded t files text (Err (fault.Link f)) = AreFoldedFrom t files text (Err f) ⊎ (f ≡ image.Link link.Memory)
AreFilesFolded t files text (Err (fault.File f front)) = IsFileRefused files (fault.File f front)

-- An input is modules and a link text, and this is the result for them.
pub record IsFoldedIn (t : Task) (input : List ℕ) (r : Result (List ℕ) ImageFault) : Type 0 where
  pub modules : List Module
  pub text : List ℕ
  pub spelled : AreModules any input (Ok (modules, text))
  pub shown : IsShownFolded t [] modules text r

-- The result for an input: the first refused module, or what is no text; or the result for its modules and its text.
abbrev pub IsFoldedOf : Task → List ℕ → Result (List ℕ) ImageFault → Type 0
IsFoldedOf t input r = IsNoModule input r ⊎ IsFoldedIn t input r
