use Rattle.std.proofs.Common.{◌≡◌, drop, length}
use Rattle.std.specs.Prelude.{filter_map}
use Rattle.omf_check.specs.Module.{records_in}
use Rattle.omf_check.specs.Tables.{groups}
use Rattle.omf_check.specs.WellFormed.{recs}
use Rattle.omf_layout.specs.Several.Placing.{low_of, IsLowTable}
use Rattle.omf_placement.proofs.Filling.{IsFilled}
use Rattle.omf_layout.proofs.several.groups.LowTable.add_groups.Given as goal

-- the groups so far are in the table
abbrev pub invariant-loop-before : goal.invariant-loop-before
invariant-loop-before l = let m = recs (records_in l.«module».bytes) in record {
  filled : IsFilled IsLowTable l.fn.self.by_name l.self.by_name (filter_map (low_of m l.segments) (drop l.before (groups m))) (filter_map (low_of m l.segments) (groups m));
  end : l.before-end ≡ length (groups m);
}
