use Rattle.std.proofs.Common.{[], take}
use Rattle.std.specs.Prelude.{map}
use Rattle.omf_library.specs.Needed.{linkage}
use Rattle.omf_library.specs.Inner.Search.{IsTable}
use Rattle.omf_library.proofs.needed.search.Definers.of_given.Given as goal

-- the table is that of the modules so far
abbrev pub invariant-loop-module : goal.invariant-loop-module
invariant-loop-module l = IsTable l.definers (take l.module-index (map linkage l.modules)) []
