use Rattle.std.proofs.Common.{◌≡◌, ◌++◌, List, drop, length}
use Rattle.std.specs.Prelude.{map}
use Rattle.omf_check.specs.Module.{records_in}
use Rattle.omf_check.specs.Tables.{groups}
use Rattle.omf_check.specs.WellFormed.{recs}
use Rattle.omf_placement.specs.declared.frame.Placed.{Placed}
use Rattle.omf_layout.specs.Several.Placing.{IsLowTable, frame_named, group_frames}
use Rattle.omf_layout.specs.Several.Portions.{Named, name_at}
use Rattle.omf_layout.proofs.several.groups.LowTable.frames_of.Given as goal

-- the frames so far, and those that are left
abbrev pub invariant-loop-before : goal.invariant-loop-before
invariant-loop-before l = let m = recs (records_in l.«module».bytes) in record {
  framed : (ls : List (Named Placed)) → IsLowTable l.self.by_name ls → l.each.items ++ map (λ g. frame_named l.frames ls (name_at m g.name.item)) (drop l.before (groups m)) ≡ group_frames l.frames ls m;
  end : l.before-end ≡ length (groups m);
}
