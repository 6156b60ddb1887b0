-- Files of modules (laws about keys), each law the contract of a function of the same name. The modules are those that are linked: lowered, with one COMDAT of each name, and with the modules that are added. So the laws
-- are about the calls `program_of`, `program_linked` and `com_linked` of omf_exe, and `exe`, `com`, `map` and `symbols` of its `ProgramModules`.
use Rattle.std.specs.Prelude.{◌≡◌, ◌↔◌, ℕ, List, Bool}
use Rattle.omf_check.specs.Module.{Module}
use Rattle.omf_host.specs.declared.tool.Tool.{Tool}
use Rattle.omf_exe.specs.Program.{IsProgramOf, IsComOf, IsMapOf, AreSymbolsOf}
use Rattle.omf_keys.specs.Keys.{HaveEqualKeys}

-- Modules of equal keys have the same .EXE file: a file is that of the ones exactly if it is that of the others, and there is at most one.
pub record HaveOneExe (most : ℕ) (ms ns : List Module) : Type 0 where
  pub same : (bytes : List ℕ) (has_stack : Bool) → IsProgramOf most ms bytes has_stack ↔ IsProgramOf most ns bytes has_stack
  pub one : (bytes other : List ℕ) (has_stack has_other : Bool) → IsProgramOf most ms bytes has_stack → IsProgramOf most ns other has_other → (bytes ≡ other) × (has_stack ≡ has_other)

abbrev pub ExesByKeys : Type 0
ExesByKeys = (most : ℕ) (ms ns : List Module) → HaveEqualKeys ms ns → HaveOneExe most ms ns

-- The same of .COM files.
pub record HaveOneCom (ms ns : List Module) : Type 0 where
  pub same : (bytes : List ℕ) → IsComOf ms bytes ↔ IsComOf ns bytes
  pub one : (bytes other : List ℕ) → IsComOf ms bytes → IsComOf ns other → bytes ≡ other

abbrev pub ComsByKeys : Type 0
ComsByKeys = (ms ns : List Module) → HaveEqualKeys ms ns → HaveOneCom ms ns

-- A text is the map of modules exactly if it is that of others with equal keys, where the modules that they show have equal keys too (law maps_are_one of omf_map: there is at most one at their placements).
abbrev pub MapsByKeys : Type 0
MapsByKeys = (ms ns shown others : List Module) (text : List ℕ) → HaveEqualKeys ms ns → HaveEqualKeys shown others → IsMapOf ms shown text ↔ IsMapOf ns others text

-- The same of symbols for a tool.
abbrev pub SymbolsByKeys : Type 0
SymbolsByKeys = (tool : Tool) (load : ℕ) (ms ns shown others : List Module) (text : List ℕ) → HaveEqualKeys ms ns → HaveEqualKeys shown others → AreSymbolsOf tool load ms shown text ↔ AreSymbolsOf tool load ns others text
