use Rattle.std.proofs.Common.{◌≡◌, ◌+◌, ◌++◌, drop}
use Rattle.std.specs.Prelude.{filter_map}
use Rattle.std.specs.List.{enumerate_from}
use Rattle.omf_linking.specs.Placing.{given_as, given_in}
use Rattle.omf_linking.proofs.placing.add_externals.Given as goal

-- the externals so far, and the others
abbrev pub invariant-loop-k : goal.invariant-loop-k
invariant-loop-k l = l.given.items ++ filter_map (given_as l.number) (enumerate_from (l.k + 1) (drop l.k l.sparse.externals)) ≡ l.fn.given.items ++ given_in (l.number, l.sparse)
