use Rattle.std.proofs.Common.{◌≡◌, ◌++◌}
use Rattle.std.specs.Prelude.{map}
use Rattle.omf_library.specs.Inner.Names.{names_seen}
use Rattle.omf_library.proofs.needed.names.push_publics.Given as goal

-- the names so far and those to come are all
abbrev pub invariant-loop-public : goal.invariant-loop-public
invariant-loop-public l = names_seen l.names.items ++ map (λ q. q.item.name) l.public-iterator ≡ names_seen l.fn.names.items ++ map (λ q. q.item.name) l.fn.items
