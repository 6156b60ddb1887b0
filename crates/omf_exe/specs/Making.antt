-- What is written of a DOS program, from the bytes of its files on (this profile's rule).
use Rattle.std.specs.Prelude.{◌≡◌, ◌⊎◌, ⊤, ◌++◌, ℕ, List, [], ◌∷◌, Bool, true, false, not, Option, Some, None, codes, is_some, option_map, string_bytes, unwrap_or}
use Rattle.std.specs.Global.{Vec}
use Rattle.omf_check.specs.Module.{Module, typed_modules}
use Rattle.omf_linking.specs.File.{InputFile}
use Rattle.omf_output.specs.Exe.Loading.{word}
use Rattle.omf_aliases.specs.Aliases.{AreFollowed}
use Rattle.omf_exe.specs.Adding.{AreAdded}
use Rattle.omf_exe.specs.Input.{AreOfFiles, AreOfFolded}
use Rattle.omf_exe.specs.Listing.{list_text}
use Rattle.omf_exe.specs.Origins.{AreAllWith, AreFrom}
use Rattle.omf_exe.specs.Program.{AreSymbolsOf, IsBetweenOf, IsComOf, IsLongOf, IsMapOf, IsMixedOf, IsNearOf, IsProgramOf, ProgramModules}
use Rattle.omf_exe.specs.Refusing.{AreNoComProgram, AreNoProgram, AreNotAdded, AreNotFollowed, AreUnplaced, GiveNoFolded, GiveNoModules, HaveNamesTwice, IsAllowed, IsLooked, IsNotAllowed}
use Rattle.omf_exe.specs.Stack.{other_stack, stack_line}
use Rattle.omf_trimming.specs.Choice.{AreChosen}
use Rattle.omf_trimming.specs.Trimmed.{AreTrimmed}
use Rattle.omf_trimming.specs.declared.optional.LeftOut.{LeftOut}
use Rattle.omf_trimming.specs.declared.without.LeftPublics.TheVariants.{AtStart, Gone}
use Rattle.omf_map.specs.Far.{far}
use Rattle.omf_symbols.specs.Tools.{usual_load}
use Rattle.omf_host.specs.declared.tool.Tool.{Tool}
use Rattle.omf_symbols.specs.declared.tool.Kind.{Kind}
use Rattle.omf_symbols.specs.declared.tool.Kind.TheVariants as file_kinds
use Rattle.omf_exe.specs.declared.input.Origin.{Origin}
use Rattle.omf_exe.specs.declared.made.MadeProgram.{MadeProgram}
use Rattle.omf_exe.specs.declared.options.ExeOptions.{ExeOptions}
use Rattle.omf_exe.specs.declared.options.ProgramKind.{ProgramKind}
use Rattle.omf_exe.specs.declared.options.SymbolsFile.{SymbolsFile}
use Rattle.omf_exe.specs.declared.options.ProgramKind.TheVariants.{Exe, Com}

-- The files of a program, and the modules that they give, with their origins. Names may be compared without case.
pub record ProgramFiles : Type 0 where
  pub files : List InputFile
  pub ignores_case : Bool
  pub modules : List Module
  pub from : List (Option Origin)

-- Modules are those of files.
abbrev pub AreOf : Bool → List InputFile → List Module → Type 0
AreOf true files ms = AreOfFolded files ms
AreOf false files ms = AreOfFiles files ms

-- Why files give no modules.
abbrev pub GiveNone : Bool → List InputFile → Type 0
GiveNone true files = GiveNoFolded files
GiveNone false files = GiveNoModules files

-- The paragraphs after its image that an .EXE file asks DOS for at most: all that there are, unless the options have a number.
abbrev pub maximum : ExeOptions → ℕ
maximum options = unwrap_or options.max_alloc 0xFFFF

-- The bytes of the program of modules, and whether an .EXE file lacks a stack; or why there are none.
abbrev pub AreBytesOf : ProgramKind → ℕ → List Module → List ℕ → Bool → Type 0
AreBytesOf Exe most ms bytes lacks_stack = IsProgramOf most ms bytes (not lacks_stack)
AreBytesOf Com most ms bytes lacks_stack = IsComOf ms bytes × (lacks_stack ≡ false)

abbrev pub HaveNoBytes : ProgramKind → List Module → Type 0
HaveNoBytes Exe ms = AreNoProgram ms
HaveNoBytes Com ms = AreNoComProgram ms

-- The stack of an .EXE file is alone.
abbrev pub IsAlone : ProgramKind → List Module → Type 0
IsAlone Exe ms = IsBetweenOf ms None
IsAlone Com ms = ⊤

-- The map of modules of files: the list of the modules, and after it the map of the program. It shows the modules without the names of the segments that are left out.
pub record IsListedMap (o : LeftOut) (files : List InputFile) (p : ProgramModules) (map : List ℕ) : Type 0 where
  pub shown : List Module
  pub named : AreTrimmed Gone o p.modules shown
  pub text : List ℕ
  pub listed : map ≡ list_text files p.from (typed_modules shown) ++ text
  pub mapped : IsMapOf p.modules shown text

-- Where a program starts and its stack is, by the header of an .EXE file (its offsets: Loading of omf_output).
abbrev pub header_lines : List ℕ → List ℕ
header_lines bytes = codes "start " ++ far (word bytes 22) (word bytes 20) ++ 10 ∷ codes "stack " ++ far (word bytes 14) (word bytes 16) ++ 10 ∷ []

abbrev pub start_lines : ProgramKind → List ℕ → List ℕ
start_lines Exe bytes = header_lines bytes
start_lines Com bytes = []

-- The map of a program with these bytes, if it is asked for: a map, and after it where an .EXE file starts.
abbrev pub IsMapIf : (List ℕ → Type 0) → ProgramKind → Bool → List ℕ → Option (Vec ℕ) → Type 0
IsMapIf IsMap kind false bytes map = map ≡ None
IsMapIf IsMap kind true bytes None = ⊥
IsMapIf IsMap kind true bytes (Some map) = (listed : List ℕ) × IsMap listed × (map.items ≡ listed ++ start_lines kind bytes)

-- The symbols of a program, if they are asked for: where the tool usually loads it.
abbrev pub file_kind : ProgramKind → Kind
file_kind Exe = file_kinds.Mz
file_kind Com = file_kinds.Com

abbrev pub AreSymbolsIf : (Tool → ℕ → List ℕ → Type 0) → ProgramKind → Option SymbolsFile → Option (Vec ℕ) → Type 0
AreSymbolsIf AreSymbols kind None text = text ≡ None
AreSymbolsIf AreSymbols kind (Some asked) None = ⊥
AreSymbolsIf AreSymbols kind (Some asked) (Some text) = AreSymbols asked.tool (usual_load asked.tool (file_kind kind)) text.items

-- They are those of the modules without the names of the segments that are left out.
pub record AreNamedSymbols (o : LeftOut) (ms : List Module) (tool : Tool) (load : ℕ) (text : List ℕ) : Type 0 where
  pub shown : List Module
  pub named : AreTrimmed Gone o ms shown
  pub symbols : AreSymbolsOf tool load ms shown text

-- What is written of modules, and shown of them: the bytes, and what a look finds.
pub record IsMadeOf (options : ExeOptions) (p : ProgramModules) (made : MadeProgram) : Type 0 where
  pub program : AreBytesOf options.kind (maximum options) p.modules made.bytes.items made.lacks_stack
  pub alone : IsAlone options.kind p.modules
  pub long : IsLooked (IsLongOf p.modules) options.allows_long (is_some made.long)
  pub mixed : IsLooked (IsMixedOf p.modules) options.allows_mixed (is_some made.mixed)
  pub near : IsLooked (IsNearOf p.modules) options.allows_near (is_some made.near)
  pub twice : HaveNamesTwice p.modules (is_some made.repeated) × IsAllowed options.allows_twice (is_some made.repeated)
  pub stack : option_map string_bytes made.stack ≡ option_map stack_line (other_stack options.kind options.stack made.bytes.items)

-- Modules as a program has them: with one COMDAT of each name, those that are added, and the defaults that aliases give to externals, without what nothing refers to of the segments
-- that may be left out.
pub record AreCompleted (options : ExeOptions) (given linked : ProgramModules) : Type 0 where
  pub chosen : List Module
  pub choice : AreChosen given.modules chosen
  pub all : ProgramModules
  pub added : AreAllWith options.kind options.stack options.order chosen given.from all
  pub whole : List Module
  pub followed : AreFollowed all.modules whole
  pub trimmed : AreTrimmed AtStart options.unreached whole linked.modules
  pub from : linked.from ≡ all.from

-- Why modules are not completed: those that are added have a fault, or the aliases are not followed.
pub record AreIncomplete (options : ExeOptions) (ms : List Module) : Type 0 where
  pub chosen : List Module
  pub choice : AreChosen ms chosen
  pub why : AreNotAdded options.kind options.stack options.order chosen ⊎ ((all : List Module) × AreAdded options.kind options.stack options.order chosen all × AreNotFollowed all)

-- What is written of files: of their modules, completed.
abbrev pub modules_of : ProgramFiles → ProgramModules
modules_of p = record { modules = p.modules; from = p.from }

pub record IsMade (options : ExeOptions) (p : ProgramFiles) (made : MadeProgram) : Type 0 where
  pub given : AreOf p.ignores_case p.files p.modules
  pub origins : AreFrom p.ignores_case p.files p.modules p.from
  pub linked : ProgramModules
  pub completed : AreCompleted options (modules_of p) linked
  pub made_of : IsMadeOf options linked made
  pub map : IsMapIf (IsListedMap options.unreached p.files linked) options.kind (is_some options.map) made.bytes.items made.map
  pub symbols : AreSymbolsIf (AreNamedSymbols options.unreached linked.modules) options.kind options.symbols made.symbols

-- Why nothing is written of modules: they have no places; a look finds what is not allowed; there is no program of them at their placements; or more than one
-- public has a name, and that is not allowed.
abbrev pub IsLookFault : ExeOptions → List Module → Type 0
IsLookFault options ms =
    IsNotAllowed (IsMixedOf ms) options.allows_mixed ⊎ (IsNotAllowed (IsLongOf ms) options.allows_long ⊎ (IsNotAllowed (IsNearOf ms) options.allows_near ⊎ ((options.kind ≡ Exe) × IsNotAllowed (IsBetweenOf ms) false)))

abbrev pub IsNotSettledOf : ExeOptions → List Module → Type 0
IsNotSettledOf options ms = AreUnplaced ms ⊎ IsLookFault options ms

abbrev pub IsNotMadeOf : ExeOptions → List Module → Type 0
IsNotMadeOf options ms = IsNotSettledOf options ms ⊎ (HaveNoBytes options.kind ms ⊎ ((options.allows_twice ≡ false) × HaveNamesTwice ms true))

-- Why nothing is written of files: their modules are not completed, or nothing is written of those.
pub record IsNotMade (options : ExeOptions) (p : ProgramFiles) : Type 0 where
  pub given : AreOf p.ignores_case p.files p.modules
  pub why : AreIncomplete options p.modules ⊎ ((linked : ProgramModules) × AreCompleted options (modules_of p) linked × IsNotMadeOf options linked.modules)
