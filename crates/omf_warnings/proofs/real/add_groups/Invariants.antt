use Rattle.std.proofs.Common.{◌≡◌, ◌+◌, ◌++◌, drop, length}
use Rattle.std.specs.Prelude.{filter_map}
use Rattle.std.specs.List.{enumerate_from}
use Rattle.omf_check.specs.Module.{records_in}
use Rattle.omf_check.specs.Tables.{groups}
use Rattle.omf_check.specs.WellFormed.{recs}
use Rattle.omf_placement.specs.Derive.{PlacedModule}
use Rattle.omf_warnings.specs.RealMode.{small_group, groups_in}
use Rattle.omf_warnings.proofs.real.add_groups.Given as goal

-- the groups so far with those to come are all
abbrev pub invariant-loop-before : goal.invariant-loop-before
invariant-loop-before l = let m : PlacedModule = (recs (records_in l.module.bytes), l.placement) in record {
  left : l.frames.items ++ filter_map (small_group l.number m) (enumerate_from (l.before + 1) (drop l.before (groups m.0))) ≡ l.fn.frames.items ++ groups_in l.number m;
  end : l.before-end ≡ length (groups m.0);
}
