use Rattle.std.proofs.Common.{◌≡◌, ◌++◌, length}
use Rattle.std.specs.Prelude.{map}
use Rattle.omf_library.specs.Aliases.{paired}
use Rattle.omf_library.proofs.aliases.put_names.Given as goal

-- the pairs so far, and those of the names that are left
abbrev pub invariant-loop-alias : goal.invariant-loop-alias
invariant-loop-alias l = l.pairs.items ++ paired (map (λ n. n.item) l.rest) ≡ l.fn.pairs.items ++ paired (map (λ n. n.item) l.fn.names)

abbrev pub decreases-loop-alias : goal.decreases-loop-alias
decreases-loop-alias l = length l.rest
