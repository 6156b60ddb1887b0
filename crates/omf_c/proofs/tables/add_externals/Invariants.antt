use Rattle.std.proofs.Common.{◌≡◌, ◌++◌}
use Rattle.std.specs.Prelude.{map}
use Rattle.omf_c.specs.Tables.{external_row}
use Rattle.omf_c.proofs.tables.add_externals.Given as goal

-- the rows so far, and those of the items that are left, are all rows
abbrev pub invariant-loop-external : goal.invariant-loop-external
invariant-loop-external l = l.rows.items ++ map (external_row l.local l.place) l.external-iterator ≡ l.fn.rows.items ++ map (external_row l.local l.place) l.fn.externals
