use Rattle.std.proofs.Common.{◌≡◌, ◌++◌}
use Rattle.omf_making.specs.Names.{names_seen}
use Rattle.omf_lib.specs.Members.{publics_among, publics_seen}
use Rattle.omf_lib.proofs.finding.push_named.Given as goal

-- the publics so far, and those among the names that are left
abbrev pub invariant-loop-defined : goal.invariant-loop-defined
invariant-loop-defined l =
    publics_seen l.all.items ++ publics_among l.member (names_seen l.defined-iterator.rest.items) ≡ publics_seen l.fn.all.items ++ publics_among l.member (names_seen l.fn.names.items)
