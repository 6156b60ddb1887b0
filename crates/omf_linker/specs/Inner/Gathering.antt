-- Adding the modules of a file and their labels to those before it (the steps of the code).
use Rattle.std.specs.Prelude.{◌≡◌, ◌<◌, ◌^◌, List, ◌++◌, length, map, string_bytes, Result, Ok, Err}
use Rattle.omf_check.specs.Module.{Module}
use Rattle.omf_linking.specs.File.{InputFile}
use Rattle.omf_linking.specs.Files.{IsFile}
use Rattle.omf_linking.specs.declared.fault.LinkFault.{LinkFault}
use Rattle.omf_linker.specs.Link.Files.{module_labels}
use Rattle.omf_linker.specs.Link.Linked.{any}
use Rattle.omf_linker.specs.declared.link.labels.LabeledModules.{LabeledModules}

-- The modules of a file were added, with their labels.
pub record AreAdded (f : InputFile) (old new : LabeledModules) : Type 0 where
  pub own : List Module
  pub held : IsFile any f.bytes (Ok own)
  pub modules : new.modules.items ≡ old.modules.items ++ own
  pub labels : map string_bytes new.labels.items ≡ map string_bytes old.labels.items ++ module_labels f.name (length own)
  pub few : length new.modules.items < 2 ^ 32

-- They were; or the file is at fault, or memory ran out.
abbrev pub IsAdded : InputFile → LabeledModules → LabeledModules → Result (Unit {0}) LinkFault → Type 0
IsAdded f old new (Ok done) = AreAdded f old new
IsAdded f old new (Err g) = IsFile any f.bytes (Err g)
