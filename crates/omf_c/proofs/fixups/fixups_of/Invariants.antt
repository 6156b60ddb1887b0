use Rattle.std.proofs.Common.{◌≡◌, ◌++◌}
use Rattle.omf_check.specs.Module.{records_in}
use Rattle.omf_c.specs.Fixups.{fixup_rows, rows_after}
use Rattle.omf_c.proofs.fixups.fixups_of.Given as goal

-- the rows so far, and those of the pieces that are left, are all rows
abbrev pub invariant-loop-place : goal.invariant-loop-place
invariant-loop-place l = l.rows.items ++ rows_after l.last l.place-iterator ≡ fixup_rows (records_in l.module.bytes)
