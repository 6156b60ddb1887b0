use Rattle.std.proofs.Common.{◌≡◌, ◌++◌}
use Rattle.std.specs.Prelude.{map}
use Rattle.omf_making.specs.Names.{alias_named, names_seen}
use Rattle.omf_making.proofs.names.push_aliases.Given as goal

-- the names so far, and those that are left
abbrev pub invariant-loop-pair : goal.invariant-loop-pair
invariant-loop-pair l = names_seen l.names.items ++ map alias_named l.pair-iterator.rest.items ≡ names_seen l.fn.names.items ++ map alias_named l.fn.pairs.items
