use Rattle.std.proofs.Common.{◌≡◌, ◌++◌, take}
use Rattle.std.specs.Prelude.{map}
use Rattle.omf_library.specs.Inner.Names.{names_seen}
use Rattle.omf_library.proofs.needed.names.push_aliases.Given as goal

-- the names so far
abbrev pub invariant-loop-pair : goal.invariant-loop-pair
invariant-loop-pair l = names_seen l.names.items ≡ names_seen l.fn.names.items ++ take l.pair-index (map (λ p. p.alias) l.pairs)
