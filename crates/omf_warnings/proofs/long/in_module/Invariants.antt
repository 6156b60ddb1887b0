use Rattle.std.proofs.Common.{◌≡◌, ◌+◌, drop, length}
use Rattle.std.specs.List.{enumerate_from}
use Rattle.omf_check.specs.Module.{records_in}
use Rattle.omf_check.specs.Tables.{segments}
use Rattle.omf_check.specs.WellFormed.{recs}
use Rattle.omf_placement.specs.Derive.{PlacedModule}
use Rattle.omf_warnings.specs.Long.{long, long_in_module}
use Rattle.omf_warnings.specs.Wide.{first_some}
use Rattle.omf_warnings.proofs.long.in_module.Given as goal

-- the first of those that are left is that of all
abbrev pub invariant-loop-before : goal.invariant-loop-before
invariant-loop-before l = let m : PlacedModule = (recs (records_in l.module.bytes), l.placement) in record {
  left : first_some (long l.number m) (enumerate_from (l.before + 1) (drop l.before (segments m.0))) ≡ long_in_module l.number m;
  end : l.before-end ≡ length (segments m.0);
}
