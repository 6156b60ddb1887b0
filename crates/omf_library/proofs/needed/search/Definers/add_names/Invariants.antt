use Rattle.std.proofs.Common.{take}
use Rattle.omf_library.specs.Inner.Names.{names_seen}
use Rattle.omf_library.specs.Inner.Search.{HasMore}
use Rattle.omf_library.proofs.needed.search.Definers.add_names.Given as goal

-- the names so far have a definer
abbrev pub invariant-loop-name : goal.invariant-loop-name
invariant-loop-name l = HasMore l.fn.self l.self (take l.name-index (names_seen l.names)) l.definer
