-- What a task of `omf-link` shows of files (a rule of this profile).
use Rattle.std.specs.Prelude.{◌≡◌, ◌⊎◌, ℕ, zero, suc, List, [], ◌∷◌, ◌++◌, length, Result, Ok, Err, codes, decimal, string_bytes}
use Rattle.omf_check.specs.Module.{Module, typed_modules}
use Rattle.omf_records.specs.Values.{Rec}
use Rattle.omf_linking.specs.File.{InputFile}
use Rattle.omf_linking.specs.Files.{IsFile, IsFirstAtFault}
use Rattle.omf_linking.specs.declared.fault.LinkFault.TheVariants as link
use Rattle.omf_linker.specs.Link.Linked.{any}
use Rattle.omf_linker.specs.Link.Shown.{AreShown}
use Rattle.omf_lines.specs.declared.fault.ImageFault.{ImageFault}
use Rattle.omf_lines.specs.declared.fault.ImageFault.TheVariants as image
use Rattle.omf_lines.specs.declared.files_fault.FilesFault.{FilesFault}
use Rattle.omf_lines.specs.declared.files_fault.FilesFault.TheVariants as fault
use Rattle.omf_linker.specs.declared.link.words.Task.{Task}
use Rattle.omf_lines.specs.Files.{file_front}

-- ---- the modules and their labels

-- What a module of a file is called: the file's name, and the number of the module in it, from 1.
abbrev pub module_label : List ℕ → ℕ → List ℕ
module_label name i = file_front name ++ codes "module " ++ decimal i

-- What the first n modules of a file are called.
abbrev pub module_labels : List ℕ → ℕ → List (List ℕ)
module_labels name zero = []
module_labels name (suc n) = module_labels name n ++ module_label name (suc n) ∷ []

-- The modules of files, in the order of the files, and what each is called.
abbrev pub AreLabeled : List InputFile → List Module → List (List ℕ) → Type 0
AreLabeled [] ms labels = (ms ≡ []) × (labels ≡ [])
AreLabeled (f ∷ fs) ms labels = (own : List Module) × (others : List Module) × (names : List (List ℕ)) × IsFile any f.bytes (Ok own) × AreLabeled fs others names × (ms ≡ own ++ others)
    × (labels ≡ module_labels f.name (length own) ++ names)

-- ---- the result

-- The first file that does not hold modules and padding alone, by its name, or out of memory.
abbrev pub IsFileRefused : List InputFile → FilesFault → Type 0
IsFileRefused files (fault.File f front) = (k : ℕ) × (a : IsFirstAtFault any files (record { file = k; fault = f })) × (string_bytes front ≡ file_front a.file.name)
IsFileRefused files (fault.Link f) = f ≡ image.Link link.Memory

-- The files hold modules, and this is the result of the task for these, by their labels, and the link text.
abbrev pub AreShownFrom : Task → List InputFile → List ℕ → Result (List ℕ) ImageFault → Type 0
AreShownFrom t files text r = (ms : List Module) × (labels : List (List ℕ)) × AreLabeled files ms labels × AreShown t labels (typed_modules ms) text r

-- The result of a task for files and a link text: that for their modules; or the first file at fault, by its name. Memory may run out at any time.
abbrev pub AreFilesShown : Task → List InputFile → List ℕ → Result (List ℕ) FilesFault → Type 0
AreFilesShown t files text (Ok shown) = AreShownFrom t files text (Ok shown)
AreFilesShown t files text (Err (fault.Link f)) = AreShownFrom t files text (Err f) ⊎ (f ≡ image.Link link.Memory)
AreFilesShown t files text (Err (fault.File f front)) = IsFileRefused files (fault.File f front)

-- The result for modules and a link text, where the fault is one of a link.
abbrev pub IsShownAs : Task → List (List ℕ) → List (List Rec) → List ℕ → Result (List ℕ) FilesFault → Type 0
IsShownAs t labels ms text (Ok shown) = AreShown t labels ms text (Ok shown)
IsShownAs t labels ms text (Err (fault.Link f)) = AreShown t labels ms text (Err f)
IsShownAs t labels ms text (Err (fault.File f front)) = ⊥
