use Rattle.std.proofs.Common.{◌≡◌, ◌++◌}
use Rattle.omf_check.specs.Module.{records_in}
use Rattle.omf_check.specs.WellFormed.{recs}
use Rattle.omf_find.specs.Rows.{public_rows}
use Rattle.omf_find.proofs.RowLaws.{listed_rows}
use Rattle.omf_find.proofs.rows.push_publics.Given as goal

-- the rows so far, and those of the records that are left
abbrev pub invariant-loop-rec : goal.invariant-loop-rec
invariant-loop-rec l = l.rows.items ++ listed_rows l.local l.number l.found l.rec-iterator ≡ l.fn.rows.items ++ public_rows l.local l.number (recs (records_in l.«module».bytes)) l.found
