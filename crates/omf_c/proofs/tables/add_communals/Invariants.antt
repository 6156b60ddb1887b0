use Rattle.std.proofs.Common.{◌≡◌, ◌++◌}
use Rattle.std.specs.Prelude.{map}
use Rattle.omf_c.specs.Tables.{communal_row}
use Rattle.omf_c.proofs.tables.add_communals.Given as goal

-- the rows so far, and those of the items that are left, are all rows
abbrev pub invariant-loop-communal : goal.invariant-loop-communal
invariant-loop-communal l = l.rows.items ++ map (communal_row l.local l.place) l.communal-iterator ≡ l.fn.rows.items ++ map (communal_row l.local l.place) l.fn.communals
