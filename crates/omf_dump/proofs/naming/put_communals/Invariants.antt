use Rattle.std.proofs.Common.{◌≡◌, ◌++◌, map}
use Rattle.omf_dump.specs.Inner.Naming.{lines_of}
use Rattle.omf_dump.specs.Names.{communal_row}
use Rattle.omf_dump.proofs.naming.put_communals.Given as goal

-- the lines so far, and those of the communals that are left
abbrev pub invariant-loop-communal : goal.invariant-loop-communal
invariant-loop-communal l = l.text.items ++ lines_of l.names (map (communal_row l.is_local) l.communal-iterator) ≡ l.fn.text.items ++ lines_of l.names (map (communal_row l.is_local) l.fn.communals)
