-- DOS programs of files (this profile's rule): what `omf-link exe` and `omf-link com` make of them, or the lines of why there is none.
use Rattle.std.specs.Prelude.{String, ◌≡◌, ◌⊎◌, ◌≤◌, ◌<◌, ℕ, ◌==◌, List, [], ◌++◌, length, map, Bool, true, false, Option, Some, None, is_some, string_bytes, if◌then◌else◌}
use Rattle.std.specs.Global.{Global}
use Rattle.std.specs.Str.Lossy.{utf8_lossy}
use Rattle.omf_linking.specs.File.{InputFile}
use Rattle.omf_exe.specs.Making.{GiveNone, IsMade, IsNotMade, ProgramFiles}
use Rattle.omf_exe.specs.Refusing.{is_out_of_memory, refusal_report}
use Rattle.omf_exe.specs.declared.made.MadeProgram.{MadeProgram}
use Rattle.omf_exe.specs.declared.options.ExeOptions.{ExeOptions}
use Rattle.omf_exe.specs.declared.options.Order.{Order}
use Rattle.omf_exe.specs.declared.options.Order.TheVariants.{Dos, Input}
use Rattle.omf_exe.specs.declared.options.ProgramKind.{ProgramKind}
use Rattle.omf_exe.specs.declared.options.ProgramKind.TheVariants.{Exe, Com}
use Rattle.omf_exe.specs.declared.refusal.Refusal.{Refusal}
use Rattle.omf_c.specs.Answers.{HandsOut, done}
use Rattle.omf_c.specs.Images.{over}
use Rattle.omf_c.specs.Linking.{unlinked}
use Rattle.omf_c.specs.Tables.{flag}
use Rattle.omf_c.specs.declared.answer.Answer.{Answer}
use Rattle.omf_c.specs.declared.rows.FileRow.{FileRow}
use Rattle.omf_c.specs.declared.rows.ProgramRow.{ProgramRow}

-- A file, as a row gives it. Bytes of the name that are no UTF-8 are replaced.
abbrev pub file_of : FileRow → InputFile
file_of r = record { name = utf8_lossy r.name.now; bytes = r.bytes.now }

-- What a row asks for.
abbrev pub kind_of : Bool → ProgramKind
kind_of true = Com
kind_of false = Exe

abbrev pub stack_of : ℕ → Option ℕ
stack_of size = if size == 0 then None else Some size

abbrev pub order_of : ℕ → Option Order
order_of order = if order == 1 then Some Dos else if order == 2 then Some Input else None

-- The options of the program for it.
pub record AreOptionsOf (row : ProgramRow) (o : ExeOptions) : Type 0 where
  pub kind : o.kind ≡ kind_of row.is_com
  pub map : is_some o.map ≡ false
  pub symbols : is_some o.symbols ≡ false
  pub ignore_case : o.ignore_case ≡ row.ignore_case
  pub stack : o.stack ≡ stack_of row.stack
  pub most : is_some o.max_alloc ≡ false
  pub order : o.order ≡ order_of row.order
  pub twice : o.allows_twice ≡ row.allow_twice
  pub long : o.allows_long ≡ row.allow_group
  pub near : o.allows_near ≡ row.allow_near
  pub mixed : o.allows_mixed ≡ row.allow_mixed
  pub code : o.unreached.code ≡ false
  pub debug : o.unreached.debug ≡ true

-- These files and options have this program.
pub record IsProgramOfFiles (files : List InputFile) (o : ExeOptions) (m : MadeProgram) : Type 0 where
  pub program : ProgramFiles
  pub of : program.files ≡ files
  pub case : program.ignores_case ≡ o.ignore_case
  pub made : IsMade o program m

-- They have none: they give no modules, or nothing is written of these.
pub record AreNotWritten (files : List InputFile) (o : ExeOptions) : Type 0 where
  pub program : ProgramFiles
  pub of : program.files ≡ files
  pub case : program.ignores_case ≡ o.ignore_case
  pub why : IsNotMade o program

abbrev pub HaveNoProgram : List InputFile → ExeOptions → Type 0
HaveNoProgram files o = GiveNone o.ignore_case files ⊎ AreNotWritten files o

-- The lines of what is found and allowed: of names with more than one public, of 16-bit with 32-bit parts, of what is too long, of near references into another frame; and that of a stack with another length than is asked for.
abbrev pub text_if : Option (String Global) → List ℕ
text_if None = []
text_if (Some t) = string_bytes t

abbrev pub warnings : MadeProgram → List ℕ
warnings m = text_if m.repeated ++ (text_if m.mixed ++ (text_if m.long ++ (text_if m.near ++ text_if m.stack)))

-- The result for a program, with the sizes of the program and of the lines, and 1 if it has no stack.
abbrev pub program_sizes : ℕ → MadeProgram → List ℕ → Answer
program_sizes status m lines = record done { status = status; size = length m.bytes.items; start = length lines; record_count = flag m.lacks_stack }

-- A program and its lines that fit both buffers are at their starts; otherwise both are unchanged.
abbrev pub HandsProgram : MadeProgram → List ℕ → Answer → List ℕ × List ℕ → List ℕ × List ℕ → Type 0
HandsProgram m lines answer old new =
    ((length m.bytes.items ≤ length old.0) × (length lines ≤ length old.1) × (answer ≡ program_sizes 0 m lines) × (new.0 ≡ over m.bytes.items old.0) × (new.1 ≡ over lines old.1))
    ⊎ (((length old.0 < length m.bytes.items) ⊎ (length old.1 < length lines)) × (answer ≡ program_sizes 8 m lines) × (new.0 ≡ old.0) × (new.1 ≡ old.1))

-- The lines of a refusal are at the start of a buffer, if they fit; else it is unchanged. The result has their size.
abbrev pub TellsRefusal : List ℕ → Answer → List ℕ → List ℕ → Type 0
TellsRefusal lines answer old new = (shown : Answer) × HandsOut lines shown old new × (answer ≡ record (unlinked 11) { start = shown.size })

-- The result for a refusal. Memory may run out at any time; then the buffer is unchanged.
abbrev pub ShowsRefusal : Refusal → Answer → List ℕ → List ℕ → Type 0
ShowsRefusal r answer old new =
    ((is_out_of_memory r ≡ false) × TellsRefusal (refusal_report r).text answer old new)
    ⊎ ((answer ≡ record done { status = 1 }) × (new ≡ old))

-- What was made with these options: the program; or why there is none; or memory ran out. Only a program is in the first buffer.
abbrev pub IsAnsweredOf : List InputFile → ExeOptions → Answer → List ℕ × List ℕ → List ℕ × List ℕ → Type 0
IsAnsweredOf files o answer old new =
    ((m : MadeProgram) × IsProgramOfFiles files o m × HandsProgram m (warnings m) answer old new)
    ⊎ (((r : Refusal) × HaveNoProgram files o × TellsRefusal (refusal_report r).text answer old.1 new.1 × (new.0 ≡ old.0))
    ⊎ ((answer ≡ record done { status = 1 }) × (new.0 ≡ old.0) × (new.1 ≡ old.1)))

abbrev pub IsFilesAnswered : List FileRow → ProgramRow → Answer → List ℕ × List ℕ → List ℕ × List ℕ → Type 0
IsFilesAnswered rows row answer old new = (o : ExeOptions) × AreOptionsOf row o × IsAnsweredOf (map file_of rows) o answer old new
