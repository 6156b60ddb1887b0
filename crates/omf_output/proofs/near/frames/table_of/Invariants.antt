use Rattle.std.proofs.Common.{drop}
use Rattle.std.specs.Prelude.{flat_map}
use Rattle.omf_placement.specs.Derive.{placed_modules}
use Rattle.omf_placement.proofs.Filling.{IsFilled}
use Rattle.omf_output.specs.Inner.GroupFrames.{IsFrameTable}
use Rattle.omf_output.specs.Near.{group_frames_in, group_frames_of}
use Rattle.omf_output.proofs.near.frames.table_of.Given as goal

-- the groups of the modules so far are in the table
abbrev pub invariant-loop-j : goal.invariant-loop-j
invariant-loop-j l = let ms = placed_modules l.modules l.placements in IsFilled IsFrameTable l.initial.table.by_name l.table.by_name (flat_map group_frames_in (drop l.j ms)) (group_frames_of ms)
