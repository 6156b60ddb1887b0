use Rattle.std.proofs.Common.{◌≡◌, ◌++◌}
use Rattle.omf_communals.specs.Inner.Writing.{bytes_of_each}
use Rattle.omf_communals.proofs.replacing.put_each.Given as goal

-- the records of the externals so far, and of those to come
abbrev pub invariant-loop-external : goal.invariant-loop-external
invariant-loop-external l = l.out.items ++ bytes_of_each l.variables l.kind l.external-iterator ≡ l.fn.out.items ++ bytes_of_each l.variables l.kind l.fn.externals
