use Rattle.std.proofs.Common.{take}
use Rattle.omf_library.specs.Inner.Names.{names_seen}
use Rattle.omf_library.specs.Inner.Search.{offered}
use Rattle.omf_library.specs.Inner.Walk.{IsGrown}
use Rattle.omf_library.proofs.needed.walk.Walk.join_names.Given as goal

-- the members of the names so far have joined
abbrev pub invariant-loop-name : goal.invariant-loop-name
invariant-loop-name l = IsGrown (offered l.search) l.fn.self.joined.items l.fn.self.queue.items l.self.joined.items l.self.queue.items (take l.name-index (names_seen l.names))
