use Rattle.std.proofs.Common.{◌≡◌, ◌++◌}
use Rattle.std.specs.Prelude.{map}
use Rattle.omf_making.specs.Names.{defined_as, names_seen}
use Rattle.omf_making.proofs.names.push_marked.Given as goal

-- the names so far, and those that are left
abbrev pub invariant-loop-defined : goal.invariant-loop-defined
invariant-loop-defined l =
    names_seen l.names.items ++ map (defined_as l.is_marked) (names_seen l.defined-iterator.rest.items) ≡ names_seen l.fn.names.items ++ map (defined_as l.is_marked) (names_seen l.fn.own.items)
