-- What is written of files, and why nothing is.
use Rattle.std.proofs.Common.{◌≡◌, ◌⊎◌, Bool, List, subst}
use Rattle.std.specs.Prelude.{ℕ, is_some}
use Rattle.omf_linking.specs.File.{InputFile}
use Rattle.omf_exe.specs.Joined.{IsJoinedFile, IsNotJoined, all_bytes}
use Rattle.omf_exe.specs.Making.{AreCompleted, AreIncomplete, AreNamedSymbols, AreOf, AreSymbolsIf, IsListedMap, IsMade, IsMadeOf, IsMapIf, IsNotMade, IsNotMadeOf, ProgramFiles}
use Rattle.omf_exe.specs.Origins.{AreFrom}
use Rattle.omf_exe.specs.Program.{ProgramModules}
use Rattle.omf_exe.specs.declared.made.MadeProgram.{MadeProgram}
use Rattle.omf_exe.specs.declared.options.ExeOptions.{ExeOptions}

-- The files, as they are seen.
abbrev pub files_of : List InputFile → Bool → ProgramModules → ProgramFiles
files_of fs ignores ms = record { files = fs; ignores_case = ignores; modules = ms.modules; from = ms.from }

-- A fault of the modules is one of the files.
pub not_made : (options : ExeOptions) (p : ProgramFiles) (fs : List InputFile) (ignores : Bool) (ms : ProgramModules) → files_of fs ignores ms ≡ p → AreOf ignores fs ms.modules
    → AreIncomplete options ms.modules ⊎ ((linked : ProgramModules) × AreCompleted options ms linked × IsNotMadeOf options linked.modules) → IsNotMade options p
not_made options p fs ignores ms e given why = subst (IsNotMade options) e (record { given = given; why = why })

pub not_joined : (options : ExeOptions) (p : ProgramFiles) (fs : List InputFile) (ignores : Bool) (ms : ProgramModules) → files_of fs ignores ms ≡ p → AreOf ignores fs ms.modules → AreIncomplete options ms.modules → IsNotJoined options p
not_joined options p fs ignores ms e given why = subst (IsNotJoined options) e (record { given = given; why = why })

-- What is written of the modules is written of the files.
pub made-of-files : (options : ExeOptions) (p : ProgramFiles) (fs : List InputFile) (ignores : Bool) (ms linked : ProgramModules) (made : MadeProgram) → files_of fs ignores ms ≡ p → AreOf ignores fs ms.modules
    → AreFrom ignores fs ms.modules ms.from → AreCompleted options ms linked → IsMadeOf options linked made → IsMapIf (IsListedMap options.unreached fs linked) options.kind (is_some options.map) made.bytes.items made.map
    → AreSymbolsIf (AreNamedSymbols options.unreached linked.modules) options.kind options.symbols made.symbols → IsMade options p made
made-of-files options p fs ignores ms linked made e given origins completed m map symbols =
    subst (λ (q : ProgramFiles). IsMade options q made) e (record { given = given; origins = origins; linked = linked; completed = completed; made_of = m; map = map; symbols = symbols })

pub joined-of-files : (options : ExeOptions) (p : ProgramFiles) (fs : List InputFile) (ignores : Bool) (ms linked : ProgramModules) (bytes : List ℕ) → files_of fs ignores ms ≡ p → AreOf ignores fs ms.modules
    → AreCompleted options ms linked → bytes ≡ all_bytes linked.modules → IsJoinedFile options p bytes
joined-of-files options p fs ignores ms linked bytes e given completed file =
    subst (λ (q : ProgramFiles). IsJoinedFile options q bytes) e (record { given = given; linked = linked; completed = completed; file = file })
