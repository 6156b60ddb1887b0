use Rattle.std.proofs.Common.{map}
use Rattle.omf_check.specs.Module.{records_in}
use Rattle.omf_check.specs.WellFormed.{recs}
use Rattle.omf_reloc.proofs.MeasureLaws.{AreMeasured}
use Rattle.omf_reloc.proofs.measuring.extents.Given as goal

-- the extents so far, with those of the records that are left, are all of them
abbrev pub invariant-loop-record : goal.invariant-loop-record
invariant-loop-record l = AreMeasured (recs (records_in l.module.bytes)) l.extents.items (map (λ x. x.1) l.record-iterator)
