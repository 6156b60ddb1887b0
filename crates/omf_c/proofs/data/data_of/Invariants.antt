use Rattle.std.proofs.Common.{◌≡◌, ◌^◌, ◌++◌}
use Rattle.std.specs.Prelude.{flat_map}
use Rattle.omf_check.specs.Module.{records_in}
use Rattle.omf_c.specs.Data.{contents_rows, data_rows}
use Rattle.omf_c.proofs.DataLaws.{AllMeasure}
use Rattle.omf_c.proofs.RowLaws.{StartBelow}
use Rattle.omf_c.proofs.data.data_of.Given as goal

-- the rows so far, and those of the records that are left, are all rows; each of these records starts inside the module, and its blocks expand
abbrev pub invariant-loop-place : goal.invariant-loop-place
invariant-loop-place l = record {
  rows : l.rows.items ++ flat_map (λ x. contents_rows x.0 x.1.kind x.1.contents) l.place-iterator ≡ data_rows (records_in l.«module».bytes);
  low : StartBelow (2 ^ 63) l.place-iterator;
  measure : AllMeasure l.place-iterator;
}
