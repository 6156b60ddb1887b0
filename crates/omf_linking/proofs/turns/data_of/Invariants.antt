use Rattle.std.proofs.Common.{◌≡◌, ◌++◌, map}
use Rattle.std.specs.Prelude.{All, flat_map}
use Rattle.omf_check.specs.Module.{records_in}
use Rattle.omf_check.specs.WellFormed.{recs}
use Rattle.omf_reloc.specs.Inner.Measuring.{CanMeasure, measured}
use Rattle.omf_linking.proofs.turns.data_of.Given as goal

-- the extents so far, and those of the records that are left, which can be measured
abbrev pub invariant-loop-place : goal.invariant-loop-place
invariant-loop-place l = record {
  can : All CanMeasure (map (λ x. x.1) l._place-iterator);
  same : l.extents.items ++ flat_map measured (map (λ x. x.1) l._place-iterator) ≡ flat_map measured (recs (records_in l.«module».bytes));
}
