-- What a task shows of files, from its steps.
use Rattle.std.proofs.Common.{◌≡◌, ℕ, List, sym, ap, subst, ◌∙◌, inl, inr}
use Rattle.std.specs.Prelude.{Result, Ok, Err, string_bytes}
use Rattle.omf_linking.specs.File.{InputFile}
use Rattle.omf_check.specs.Module.{Module, typed_modules}
use Rattle.omf_linking.specs.Files.{IsFirstAtFault}
use Rattle.omf_linking.specs.declared.fault.LinkFault.{LinkFault}
use Rattle.omf_linker.specs.Link.Files.{AreFilesShown, AreLabeled, IsFileRefused, IsShownAs}
use Rattle.omf_lines.specs.Files.{IsFileNamed, file_front}
use Rattle.omf_linker.specs.Link.Linked.{any}
use Rattle.omf_lines.specs.declared.files_fault.FilesFault.{FilesFault}
use Rattle.omf_lines.specs.declared.files_fault.FilesFault.TheVariants as fault
use Rattle.omf_linker.specs.declared.link.words.Task.{Task}

-- the first file at fault, by its name
pub at_file : (files : List InputFile) (k : ℕ) (f : LinkFault) (name : List ℕ) (e : FilesFault) (a : IsFirstAtFault any files (record { file = k; fault = f })) → a.file.name ≡ name → IsFileNamed name f e → IsFileRefused files e
at_file files k f name (fault.File g front) a n i =
    let named : string_bytes front ≡ file_front a.file.name = i.1 ∙ ap file_front (sym n) in
    let pair = subst (λ (x : LinkFault). (b : IsFirstAtFault any files (record { file = k; fault = x })) × (string_bytes front ≡ file_front b.file.name)) (sym i.0) (a, named) in
    (k, pair.0, pair.1)
at_file files k f name (fault.Link e) a n i = i

pub not_shown : (t : Task) (files : List InputFile) (text : List ℕ) (e : FilesFault) → IsFileRefused files e → AreFilesShown t files text (Err e)
not_shown t files text (fault.File f front) h = h
not_shown t files text (fault.Link f) h = inr h

-- the modules of the files have this result
pub from_modules : (t : Task) (files : List InputFile) (text : List ℕ) (ms : List Module) (labels : List (List ℕ)) (r : Result (List ℕ) FilesFault) → AreLabeled files ms labels → IsShownAs t labels (typed_modules ms) text r
    → AreFilesShown t files text r
from_modules t files text ms labels (Ok shown) h i = (ms, labels, h, i)
from_modules t files text ms labels (Err (fault.Link f)) h i = inl (ms, labels, h, i)
from_modules t files text ms labels (Err (fault.File f front)) h i = absurd i
