use Rattle.std.proofs.Common.{◌≡◌, ◌++◌, length}
use Rattle.omf_library.specs.LibraryMembers.{names_kept, publics_in}
use Rattle.omf_library.proofs.publics.publics_in.Given as goal

-- the names so far and those to come are all
abbrev pub invariant-loop-rest : goal.invariant-loop-rest
invariant-loop-rest l = names_kept l.names.items ++ publics_in l.rest ≡ publics_in l.bytes

abbrev pub decreases-loop-rest : goal.decreases-loop-rest
decreases-loop-rest l = length l.rest
