use Rattle.std.proofs.Common.{◌≡◌, ◌++◌, drop}
use Rattle.std.specs.Prelude.{flat_map}
use Rattle.std.specs.List.{enumerate_from}
use Rattle.omf_linking.specs.Placing.{given_in, given_of}
use Rattle.omf_linking.proofs.placing.given_of.Given as goal

-- the externals of the modules so far, and those of the others
abbrev pub invariant-loop-j : goal.invariant-loop-j
invariant-loop-j l = l.given.items ++ flat_map given_in (enumerate_from l.j (drop l.j l.sparse)) ≡ given_of l.sparse
