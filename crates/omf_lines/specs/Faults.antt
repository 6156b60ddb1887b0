-- The faults of `omf-link`: the lines by names, the printed line, and what is reported (a rule of this profile).
use Rattle.std.specs.Prelude.{◌≡◌, ◌⊎◌, ℕ, ◌+◌, Bool, true, false, List, [], ◌∷◌, ◌++◌, codes, decimal}
use Rattle.omf_placement.specs.declared.several.fault.DeriveFault.TheVariants as derive
use Rattle.omf_linking.specs.declared.space.fault.MemoryFault.TheVariants as space
use Rattle.omf_placement.specs.Entries.{in_words}
use Rattle.omf_records.specs.Values.{Rec}
use Rattle.omf_linking.specs.declared.fault.LinkFault.{LinkFault}
use Rattle.omf_linking.specs.declared.fault.LinkFault.TheVariants as link
use Rattle.omf_cmd.specs.FaultLine.{fault_words as run_words}
use Rattle.omf_cmd.specs.Programs.{FaultReport}
use Rattle.omf_cmd.specs.declared.fault.RunFault.TheVariants as run
use Rattle.omf_lines.specs.Named.{HasLines}
use Rattle.omf_lines.specs.declared.fault.ImageFault.{ImageFault}
use Rattle.omf_lines.specs.declared.fault.ImageFault.TheVariants as fault

-- ---- the fault with its lines

-- The fault is about a module and its parts, or about a line of the text: it has lines by their names.
abbrev pub is_of_modules : LinkFault → Bool
is_of_modules (link.External (derive.Undefined j i)) = true
is_of_modules (link.External (derive.Twice j i)) = true
is_of_modules (link.External (derive.TooHigh j i)) = true
is_of_modules (link.Reach j f) = true
is_of_modules (link.Starts j k) = true
is_of_modules (link.Space (space.Beyond o)) = true
is_of_modules (link.Space (space.Overlap a s t)) = true
is_of_modules (link.Line n w) = true
is_of_modules _ = false

-- A link fault at the placements of a text: with its lines, if it has some; or out of memory for these.
abbrev pub IsNamed : List (List ℕ) → List (List Rec) → List ℕ → LinkFault → ImageFault → Type 0
IsNamed labels ms text f (fault.Link g) = ((g ≡ f) × (is_of_modules f ≡ false)) ⊎ (g ≡ link.Memory)
IsNamed labels ms text f (fault.Lines g lines) = (g ≡ f) × (is_of_modules f ≡ true) × HasLines labels ms text f lines.items
IsNamed labels ms text f _ = ⊥

-- ---- the line

-- A module, counted from 1.
abbrev pub module_words : ℕ → List (List ℕ)
module_words j = codes "module" ∷ decimal (j + 1) ∷ []

-- What follows the modules and is no text: its offset in the input.
abbrev pub input_at : ℕ → List ℕ
input_at at = codes "input at " ++ decimal at

-- A fault about a module and its parts, or about a line of the text, has lines of its own, by their names.
abbrev pub not_linked : List (List ℕ)
not_linked = codes "not linked" ∷ []

-- The line of any other link fault. Refusals have the words of `omf`, after the number of their module.
abbrev pub link_words : LinkFault → List (List ℕ)
link_words link.Memory = run_words run.Memory
link_words link.Read = run_words run.Read
link_words (link.Refused j why at) = module_words j ++ run_words (run.Refused why at)
link_words (link.NoText at) = (input_at at ++ codes ": no module and no text") ∷ []
link_words link.NoModules = codes "no modules" ∷ []
link_words (link.Line n why) = not_linked
link_words (link.External f) = not_linked
link_words (link.Reach j f) = not_linked
link_words (link.Starts j k) = not_linked
link_words (link.Space f) = not_linked

-- The line if a draft has no room, as for `omf-place`.
abbrev pub no_room : List ℕ
no_room = codes "no room below the last address"

-- ---- the report

-- The exit status of a link fault: 3 for memory and the reader, else 1.
abbrev pub link_status : LinkFault → ℕ
link_status link.Memory = 3
link_status link.Read = 3
link_status _ = 1

-- A line of a text is one of the text that follows the modules, where no file is named.
abbrev pub text_front : LinkFault → List ℕ
text_front (link.Line n w) = codes "text "
text_front _ = []

-- What is reported of a fault: the exit status, and the line and its line feed. Nothing is printed if the writer failed.
abbrev pub report : ImageFault → FaultReport
report (fault.Link f) = record { status = link_status f; text = in_words (link_words f) ++ 10 ∷ [] }
report (fault.Lines f lines) = record { status = 1; text = text_front f ++ lines.items }
report (fault.Outside a o lines) = record { status = 1; text = lines.items }
report fault.NoRoom = record { status = 1; text = no_room ++ 10 ∷ [] }
report fault.Write = record { status = 3; text = [] }
