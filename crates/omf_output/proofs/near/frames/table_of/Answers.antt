use Rattle.std.proofs.Common.{◌≡◌, ◌+◌, ◌∷◌, ap, drop}
use Rattle.std.specs.Prelude.{flat_map}
use Rattle.omf_check.specs.Module.{records_in}
use Rattle.omf_check.specs.WellFormed.{recs}
use Rattle.omf_placement.specs.Derive.{PlacedModule, placed_modules}
use Rattle.omf_placement.proofs.Filling.{fill-more, fill-end}
use Rattle.omf_placement.proofs.TableLaws.{next-placed, none-left}
use Rattle.omf_output.specs.Inner.GroupFrames.{IsFrameTable}
use Rattle.omf_output.specs.Near.{group_frames_in, group_frames_of}
use Rattle.omf_output.proofs.FrameLaws.{fill-empty}
use Rattle.omf_output.proofs.near.frames.table_of.Goals as goal

pub loop-j-preserved : goal.loop-j-preserved
loop-j-preserved c =
    let ms = placed_modules c.args.modules.now c.args.placements.now in
    let j = c.loop-j.j in
    let m : PlacedModule = (recs (records_in c.index-modules-j.result.bytes), c.index-placements-j.result) in
    let next : drop j ms ≡ m ∷ drop (j + 1) ms
    = next-placed c.args.modules.now c.args.placements.now j c.index-modules-j.result c.index-placements-j.result c.index-modules-j.is c.index-placements-j.is c.loop-j-test.true c.requires in
    fill-more IsFrameTable c.new.result c.loop-j.table.by_name c.add_module.new.self.by_name (group_frames_in m) (flat_map group_frames_in (drop j ms)) _ _
    (ap (flat_map group_frames_in) next) c.in_ok-add_module.ensures c.loop-j.invariant

pub returns : goal.returns
returns c =
    let ms = placed_modules c.args.modules.now c.args.placements.now in
    fill-empty c.new.result c.loop-j.table.by_name (group_frames_of ms) c.new.ensures.empty
    (fill-end IsFrameTable c.new.result c.loop-j.table.by_name _ _ (ap (flat_map group_frames_in) (none-left c.args.modules.now c.args.placements.now c.loop-j.j c.loop-j-test.false)) c.loop-j.invariant)
