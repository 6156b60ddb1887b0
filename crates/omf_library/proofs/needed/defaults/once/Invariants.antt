use Rattle.std.proofs.Common.{take}
use Rattle.omf_library.specs.Inner.Asked.{HasAsked}
use Rattle.omf_library.specs.Inner.Names.{names_seen}
use Rattle.omf_library.proofs.needed.defaults.once.Given as goal

-- of the names so far each is kept once
abbrev pub invariant-loop-name : goal.invariant-loop-name
invariant-loop-name l = HasAsked l.asked (take l.name-index (names_seen l.names))
