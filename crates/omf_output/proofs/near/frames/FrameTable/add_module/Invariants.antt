use Rattle.std.proofs.Common.{◌≡◌, ◌+◌, drop, length}
use Rattle.std.specs.Prelude.{flat_map}
use Rattle.std.specs.List.{enumerate_from}
use Rattle.omf_check.specs.Module.{records_in}
use Rattle.omf_check.specs.Tables.{groups}
use Rattle.omf_check.specs.WellFormed.{recs}
use Rattle.omf_placement.specs.Derive.{PlacedModule}
use Rattle.omf_placement.proofs.Filling.{IsFilled}
use Rattle.omf_output.specs.Inner.GroupFrames.{IsFrameTable}
use Rattle.omf_output.specs.Near.{group_frames, group_frames_in}
use Rattle.omf_output.proofs.near.frames.FrameTable.add_module.Given as goal

-- the groups so far are in the table
abbrev pub invariant-loop-before : goal.invariant-loop-before
invariant-loop-before l = let m : PlacedModule = (recs (records_in l.«module».bytes), l.placement) in record {
  filled : IsFilled IsFrameTable l.fn.self.by_name l.self.by_name (flat_map (group_frames m) (enumerate_from (l.before + 1) (drop l.before (groups m.0)))) (group_frames_in m);
  end : l.before-end ≡ length (groups m.0);
}
