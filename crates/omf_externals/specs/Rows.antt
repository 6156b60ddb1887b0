-- Definitions for the worked examples.
use Rattle.std.specs.Prelude.{ℕ, List, [], map}
use Rattle.omf_reloc.specs.Modules.{module_of}
use Rattle.omf_externals.specs.Unresolved.{unresolved_text}

-- the lines of the names of modules, by their bytes
abbrev pub names_of : List (List ℕ) → List ℕ
names_of ms = unresolved_text [] (map module_of ms) []
