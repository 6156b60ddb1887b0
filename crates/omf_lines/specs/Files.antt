-- The lines of faults of files, and what is reported of them (a rule of this profile).
use Rattle.std.specs.Prelude.{◌≡◌, ℕ, List, [], ◌∷◌, ◌++◌, Option, Some, None, codes, decimal, string_bytes}
use Rattle.omf_cmd.specs.Printed.{line}
use Rattle.omf_cmd.specs.Programs.{FaultReport}
use Rattle.omf_host.specs.Lines.{shown_name}
use Rattle.omf_placement.specs.Quoted.{quoted}
use Rattle.omf_linking.specs.declared.fault.LinkFault.{LinkFault}
use Rattle.omf_linking.specs.declared.fault.LinkFault.TheVariants as link
use Rattle.omf_lines.specs.Faults.{link_status, link_words, report}
use Rattle.omf_lines.specs.declared.fault.ImageFault.TheVariants as image
use Rattle.omf_lines.specs.declared.files_fault.FilesFault.{FilesFault}
use Rattle.omf_lines.specs.declared.files_fault.FilesFault.TheVariants as fault
use Rattle.omf_lines.specs.declared.text_fault.TextFault.{TextFault}

-- The front of the line of a file's fault: the word `file` and the file's name, each with a space after it.
abbrev pub file_front : List ℕ → List ℕ
file_front name = codes "file " ++ (quoted name ++ 32 ∷ [])

-- The offset in the file of what is neither a module nor padding.
abbrev pub file_at : ℕ → List ℕ
file_at at = codes "at " ++ decimal at

-- The rest of the line: what the file holds beside modules and padding, or the line of a link fault.
abbrev pub file_line : LinkFault → List ℕ
file_line (link.NoText at) = file_at at ++ line (codes ": neither a module nor padding" ∷ [])
file_line f = line (link_words f)

-- What is reported of a fault.
abbrev pub files_report : FilesFault → FaultReport
files_report (fault.File f front) = record { status = link_status f; text = string_bytes front ++ file_line f }
files_report (fault.Link f) = report f

-- The lines of a fault of a line of the link text, without the text's name.
abbrev pub lines_of_text : FilesFault → Option (List ℕ)
lines_of_text (fault.Link (image.Lines (link.Line n w) lines)) = Some lines.items
lines_of_text _ = None

-- What is before these: the name of the text's file and a colon.
abbrev pub text_front : List ℕ → List ℕ
text_front name = shown_name name ++ codes ": "

-- What is reported of a fault, if the link text is a file: the lines of a fault of the text are after the file's name.
abbrev pub named_text : List ℕ → List ℕ → Option (List ℕ) → List ℕ
named_text front other None = other
named_text front other (Some lines) = front ++ lines

abbrev pub named_report : TextFault → FaultReport
named_report t = record { status = (files_report t.fault).status; text = named_text (string_bytes t.front) (files_report t.fault).text (lines_of_text t.fault) }

-- A file's fault with the front of its line, or out of memory for that.
abbrev pub IsFileNamed : List ℕ → LinkFault → FilesFault → Type 0
IsFileNamed name f (fault.File g front) = (g ≡ f) × (string_bytes front ≡ file_front name)
IsFileNamed name f (fault.Link e) = e ≡ image.Link link.Memory
