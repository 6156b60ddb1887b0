use Rattle.std.proofs.Common.{length}
use Rattle.omf_check.specs.Module.{records_in}
use Rattle.omf_c.specs.Records.{record_rows}
use Rattle.omf_c.proofs.RecordLaws.{AreShown}
use Rattle.omf_c.proofs.records.records_of.Given as goal

-- the rows so far, and those of the records that are left, are all rows
abbrev pub invariant-records : goal.invariant-records
invariant-records l = AreShown (record_rows (records_in l.«module».bytes)) l.left l.number l.start l.rows.items

abbrev pub decreases-records : goal.decreases-records
decreases-records l = length l.left
