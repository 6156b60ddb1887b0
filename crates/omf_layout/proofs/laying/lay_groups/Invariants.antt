use Rattle.std.proofs.Common.{◌≡◌, ◌≤◌, ◌+◌, ◌-◌, ◌++◌, length}
use Rattle.std.specs.Prelude.{map}
use Rattle.std.specs.List.{range_with_len}
use Rattle.omf_check.specs.Module.{records_in}
use Rattle.omf_check.specs.Tables.{groups}
use Rattle.omf_check.specs.WellFormed.{recs}
use Rattle.omf_layout.specs.Layout.{group_frame, group_frames}
use Rattle.omf_layout.proofs.laying.lay_groups.Given as goal

-- the groups so far, and those that are left
abbrev pub invariant-loop-k : goal.invariant-loop-k
invariant-loop-k l = let m = recs (records_in l.«module».bytes) in record {
  start : 1 ≤ l.k;
  within : l.k ≤ length (groups m) + 1;
  end : l.k-end ≡ length (groups m) + 1;
  given : l.placement.groups ++ map (group_frame l.frames m l.fn.placement.segments) (range_with_len l.k (length (groups m) + 1 - l.k)) ≡ group_frames l.frames m l.fn.placement.segments;
  segments : l.placement.segments ≡ l.fn.placement.segments;
  externals : l.placement.externals ≡ l.fn.placement.externals;
}
