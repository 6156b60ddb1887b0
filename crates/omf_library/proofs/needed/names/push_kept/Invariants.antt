use Rattle.std.proofs.Common.{◌≡◌, ◌++◌, take}
use Rattle.omf_library.specs.Inner.Names.{names_seen}
use Rattle.omf_library.specs.LibraryMembers.{names_kept}
use Rattle.omf_library.proofs.needed.names.push_kept.Given as goal

-- the names so far
abbrev pub invariant-loop-name : goal.invariant-loop-name
invariant-loop-name l = names_seen l.names.items ≡ names_seen l.fn.names.items ++ take l.name-index (names_kept l.kept)
