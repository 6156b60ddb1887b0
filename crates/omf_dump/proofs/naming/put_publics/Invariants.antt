use Rattle.std.proofs.Common.{◌≡◌, ◌++◌, map}
use Rattle.omf_dump.specs.Inner.Naming.{lines_of}
use Rattle.omf_dump.specs.Names.{public_row}
use Rattle.omf_dump.proofs.naming.put_publics.Given as goal

-- the lines so far, and those of the publics that are left
abbrev pub invariant-loop-public : goal.invariant-loop-public
invariant-loop-public l = l.text.items ++ lines_of l.names (map (public_row l.names.facts l.base.kind l.base.segment l.base.frame) l.public-iterator)
    ≡ l.fn.text.items ++ lines_of l.names (map (public_row l.names.facts l.base.kind l.base.segment l.base.frame) l.fn.publics)
