use Rattle.std.proofs.Common.{◌≡◌}
use Rattle.omf_check.specs.Module.{records_in}
use Rattle.omf_c.specs.Data.{bytes_if, data_bytes, numbered}
use Rattle.omf_c.proofs.DataLaws.{AllMeasure}
use Rattle.omf_c.proofs.data.bytes_of.Given as goal

-- the record with the number is among those that are left, whose blocks expand
abbrev pub invariant-loop-place : goal.invariant-loop-place
invariant-loop-place l = record {
  bytes : bytes_if (numbered l.number l.place-iterator) ≡ data_bytes l.number (records_in l.«module».bytes);
  measure : AllMeasure l.place-iterator;
}
