use Rattle.std.proofs.Common.{◌≡◌, ◌++◌}
use Rattle.std.specs.Prelude.{map}
use Rattle.omf_library.specs.LibraryMembers.{names_kept}
use Rattle.omf_library.proofs.publics.push_names.Given as goal

-- the names so far and those to come are all
abbrev pub invariant-loop-public : goal.invariant-loop-public
invariant-loop-public l = names_kept l.names.items ++ map (λ q. q.item.name) l.public-iterator ≡ names_kept l.fn.names.items ++ map (λ q. q.item.name) l.fn.publics
