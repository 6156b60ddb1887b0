use Rattle.std.proofs.Common.{◌≡◌, ◌+◌, ◌++◌, drop, length}
use Rattle.std.specs.Prelude.{filter_map, map}
use Rattle.std.specs.List.{enumerate_from}
use Rattle.omf_check.specs.Module.{records_in}
use Rattle.omf_check.specs.Tables.{groups}
use Rattle.omf_check.specs.WellFormed.{recs}
use Rattle.omf_layout.specs.Several.Gathered.{named}
use Rattle.omf_placement.specs.Derive.{PlacedModule}
use Rattle.omf_warnings.specs.Frames.{group_framed, groups_in}
use Rattle.omf_warnings.proofs.frames.add_groups.Given as goal

-- the groups so far with those to come are all
abbrev pub invariant-loop-before : goal.invariant-loop-before
invariant-loop-before l = let m : PlacedModule = (recs (records_in l.module.bytes), l.placement) in record {
  left : map named l.groups.items ++ filter_map (group_framed l.number m) (enumerate_from (l.before + 1) (drop l.before (groups m.0))) ≡ map named l.fn.groups.items ++ groups_in l.number m;
  end : l.before-end ≡ length (groups m.0);
}
