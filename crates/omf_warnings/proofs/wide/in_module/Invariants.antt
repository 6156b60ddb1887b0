use Rattle.std.proofs.Common.{◌≡◌, ◌+◌, drop, length}
use Rattle.std.specs.List.{enumerate_from}
use Rattle.omf_check.specs.Module.{records_in}
use Rattle.omf_check.specs.Tables.{groups}
use Rattle.omf_check.specs.WellFormed.{recs}
use Rattle.omf_placement.specs.Derive.{PlacedModule}
use Rattle.omf_warnings.specs.Wide.{first_some, wide_in_group, wide_in_module}
use Rattle.omf_warnings.proofs.wide.in_module.Given as goal

-- the first of those that are left is that of all
abbrev pub invariant-loop-before : goal.invariant-loop-before
invariant-loop-before l = let m : PlacedModule = (recs (records_in l.part.«module».now.bytes), l.part.placement.now) in record {
  left : first_some (wide_in_group l.part.number m) (enumerate_from (l.before + 1) (drop l.before (groups m.0))) ≡ wide_in_module l.part.number m;
  end : l.before-end ≡ length (groups m.0);
}
