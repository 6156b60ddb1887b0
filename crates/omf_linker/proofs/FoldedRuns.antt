-- A run of `omf-link` with names compared without case, from its steps.
use Rattle.std.proofs.Common.{◌≡◌, ℕ, List, subst, inl, inr, map}
use Rattle.std.specs.Prelude.{Result, Ok, Err}
use Rattle.std.specs.List.{AllZip}
use Rattle.omf_check.specs.Module.{Module, typed_modules}
use Rattle.omf_linking.proofs.FoldLaws.{typed-folded}
use Rattle.omf_linking.specs.Folded.{IsFolded, folded}
use Rattle.omf_linking.specs.FoldedText.{folded_text}
use Rattle.omf_linking.specs.PlainText.{plain_text}
use Rattle.omf_records.specs.Values.{Rec}
use Rattle.omf_linking.specs.File.{InputFile}
use Rattle.omf_linker.specs.Link.Files.{AreLabeled, IsFileRefused}
use Rattle.omf_linker.specs.Link.Folded.{AreFilesFolded, IsShownFolded, IsShownFoldedAs}
use Rattle.omf_linker.specs.Link.Shown.{AreShown}
use Rattle.omf_lines.specs.declared.fault.ImageFault.{ImageFault}
use Rattle.omf_lines.specs.declared.files_fault.FilesFault.{FilesFault}
use Rattle.omf_lines.specs.declared.files_fault.FilesFault.TheVariants as fault
use Rattle.omf_linker.specs.declared.link.words.Task.{Task}

pub not-folded : (t : Task) (files : List InputFile) (text : List ℕ) (e : FilesFault) → IsFileRefused files e → AreFilesFolded t files text (Err e)
not-folded t files text (fault.File f front) h = h
not-folded t files text (fault.Link f) h = inr h

-- the result for folded modules and a folded text
pub shown-folded : (t : Task) (labels : List (List ℕ)) (ms ns : List Module) (text lower : List ℕ) (r : Result (List ℕ) ImageFault) → AllZip IsFolded ms ns → lower ≡ folded_text (plain_text text) → AreShown t labels (typed_modules ns) lower r
    → IsShownFolded t labels ms text r
shown-folded t labels ms ns text lower r h e s =
    subst (λ (x : List ℕ). AreShown t labels (map folded (typed_modules ms)) x r) e (subst (λ (m : List (List Rec)). AreShown t labels m lower r) (typed-folded ms ns h) s)

-- the modules of the files have this result
pub folded-from-modules : (t : Task) (files : List InputFile) (text : List ℕ) (ms : List Module) (labels : List (List ℕ)) (r : Result (List ℕ) FilesFault) → AreLabeled files ms labels → IsShownFoldedAs t labels ms text r
    → AreFilesFolded t files text r
folded-from-modules t files text ms labels (Ok shown) h i = (ms, labels, h, i)
folded-from-modules t files text ms labels (Err (fault.Link f)) h i = inl (ms, labels, h, i)
folded-from-modules t files text ms labels (Err (fault.File f front)) h i = absurd i
