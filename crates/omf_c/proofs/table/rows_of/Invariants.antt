use Rattle.std.proofs.Common.{◌≡◌, ◌^◌, ◌++◌}
use Rattle.omf_c.proofs.RowLaws.{StartBelow}
use Rattle.omf_check.specs.Listed.{placed_from}
use Rattle.omf_check.specs.Module.{records_in}
use Rattle.omf_c.specs.Tables.{rows_from}
use Rattle.omf_c.proofs.table.rows_of.Given as goal

-- the rows so far, and those of the records that are left, are all rows; and each record that is left starts inside the module
abbrev pub invariant-loop-place : goal.invariant-loop-place
invariant-loop-place g l = record {
  rows : l.rows.items ++ rows_from g.T.Row.given l.names l.place-iterator ≡ rows_from g.T.Row.given l.names (placed_from 0 0 (records_in l.module.bytes));
  low : StartBelow (2 ^ 63) l.place-iterator;
}
