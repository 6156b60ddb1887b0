use Rattle.std.proofs.Common.{◌≡◌, ◌++◌, drop}
use Rattle.std.specs.Prelude.{flat_map}
use Rattle.omf_check.specs.Module.{recs_of}
use Rattle.omf_library.specs.Defaults.{asked_by}
use Rattle.omf_library.specs.Inner.Names.{names_seen}
use Rattle.omf_library.proofs.needed.defaults.all_asked.Given as goal

-- the names so far and those of the modules to come are all
abbrev pub invariant-loop-module : goal.invariant-loop-module
invariant-loop-module l = names_seen l.names.items ++ flat_map (λ m. asked_by (recs_of m.bytes)) (drop l.module-index l.modules) ≡ flat_map (λ m. asked_by (recs_of m.bytes)) l.modules
