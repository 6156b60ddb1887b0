-- The text that a task prints for an input, or the first fault, with its lines.
use Rattle.std.specs.Prelude.{◌≡◌, ◌⊎◌, ℕ, List, [], true, false, Result, Ok, Err}
use Rattle.omf_check.specs.Module.{Module, typed_modules}
use Rattle.omf_records.specs.Values.{Rec}
use Rattle.omf_linking.specs.PlainText.{plain_text}
use Rattle.omf_linking.specs.Reading.{AreModules}
use Rattle.omf_linking.specs.declared.fault.LinkFault.{LinkFault}
use Rattle.omf_linking.specs.declared.fault.LinkFault.TheVariants as link
use Rattle.omf_linker.specs.Link.Drafted.{IsDrafted}
use Rattle.omf_lines.specs.Faults.{is_of_modules}
use Rattle.omf_linker.specs.Link.Linked.{any, IsLinked}
use Rattle.omf_linker.specs.Link.Mapped.{IsMapped}
use Rattle.omf_linker.specs.Link.Rom.{IsRom}
use Rattle.omf_lines.specs.Named.{HasLines}
use Rattle.omf_drafting.specs.Suiting.{options_for}
use Rattle.omf_lines.specs.declared.fault.ImageFault.{ImageFault}
use Rattle.omf_lines.specs.declared.fault.ImageFault.TheVariants as fault
use Rattle.omf_linker.specs.declared.link.words.Task.{Task}
use Rattle.omf_linker.specs.declared.link.words.Task.TheVariants as task

-- A result for modules and a link text, where a fault that has lines has them. Out of memory is possible at any time.
abbrev pub IsNamedAs : (Result (List ℕ) LinkFault → Type 0) → List (List ℕ) → List (List Rec) → List ℕ → Result (List ℕ) ImageFault → Type 0
IsNamedAs Is labels ms text (Ok shown) = Is (Ok shown)
IsNamedAs Is labels ms text (Err (fault.Link f)) = (Is (Err f) × (is_of_modules f ≡ false)) ⊎ (f ≡ link.Memory)
IsNamedAs Is labels ms text (Err (fault.Lines f lines)) = Is (Err f) × (is_of_modules f ≡ true) × HasLines labels ms text f lines.items
IsNamedAs Is labels ms text (Err _) = ⊥

-- The result of a task for modules with these labels and a link text: their image as text, or as a file for a chip, or their map; or their draft, whatever the text
-- is.
abbrev pub AreShownAt : Task → List (List ℕ) → List (List Rec) → List ℕ → Result (List ℕ) ImageFault → Type 0
AreShownAt task.Image labels ms text r = IsNamedAs (IsLinked ms text) labels ms text r
AreShownAt (task.Rom f) labels ms text r = IsRom f labels ms text r
AreShownAt task.Map labels ms text r = IsNamedAs (IsMapped labels ms text) labels ms text r
AreShownAt (task.Draft o) labels ms text r = IsDrafted (options_for ms o) ms r

-- The same for a link text as a person writes it: without a byte-order mark, with spaces for tabs, and with capital digits in escapes.
abbrev pub AreShown : Task → List (List ℕ) → List (List Rec) → List ℕ → Result (List ℕ) ImageFault → Type 0
AreShown t labels ms text r = AreShownAt t labels ms (plain_text text) r

-- An input is modules and a link text, and this is the result for them. The modules have no labels: a fault counts them.
pub record AreShownIn (t : Task) (input : List ℕ) (r : Result (List ℕ) ImageFault) : Type 0 where
  pub modules : List Module
  pub text : List ℕ
  pub spelled : AreModules any input (Ok (modules, text))
  pub shown : AreShown t [] (typed_modules modules) text r

-- A module of the input is refused, and this is the fault of the first; or what follows the modules is no text.
abbrev pub IsNoModule : List ℕ → Result (List ℕ) ImageFault → Type 0
IsNoModule input (Ok shown) = ⊥
IsNoModule input (Err (fault.Link f)) = AreModules any input (Err f)
IsNoModule input (Err _) = ⊥

-- The result of a task for an input: the first refused module, or what is no text; or the result for its modules and its text.
abbrev pub IsShownOf : Task → List ℕ → Result (List ℕ) ImageFault → Type 0
IsShownOf t input r = IsNoModule input r ⊎ AreShownIn t input r
