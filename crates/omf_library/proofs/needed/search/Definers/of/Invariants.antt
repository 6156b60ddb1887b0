use Rattle.std.proofs.Common.{take}
use Rattle.std.specs.Prelude.{map}
use Rattle.omf_library.specs.Needed.{linkage, member_linkage}
use Rattle.omf_library.specs.Inner.Search.{IsTable}
use Rattle.omf_library.proofs.needed.search.Definers.of.Given as goal

-- the table is that of the given modules and the members so far
abbrev pub invariant-loop-number : goal.invariant-loop-number
invariant-loop-number l = IsTable l.definers (map linkage l.modules) (take l.number (map member_linkage l.members))
