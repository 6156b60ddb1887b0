use Rattle.std.proofs.Common.{◌≡◌, ◌+◌, ◌∷◌, [], arith, ap, drop, length, rules}
use Rattle.std.specs.Prelude.{Some, option_map, flat_map}
use Rattle.std.specs.List.{enumerate_from}
use Rattle.omf_check.specs.Module.{records_in}
use Rattle.omf_check.specs.Tables.{groups, entry}
use Rattle.omf_check.specs.WellFormed.{recs}
use Rattle.omf_placement.specs.Derive.{PlacedModule}
use Rattle.omf_records.specs.Inner.Seen.{contents_seen}
use Rattle.omf_records.specs.Values.{Group}
use Rattle.omf_placement.proofs.Filling.{fill-end, fill-more}
use Rattle.omf_output.specs.Inner.GroupFrames.{IsFrameTable}
use Rattle.omf_output.specs.Near.{group_frames}
use Rattle.omf_output.proofs.FrameLaws.{groups-split}
use Rattle.omf_output.proofs.LowLaws.{group-here}
use Rattle.omf_placement.proofs.StepLaws.{none_left}
use Rattle.omf_output.proofs.near.frames.FrameTable.add_module.Goals as goal

pub loop-before-preserved : goal.loop-before-preserved
loop-before-preserved c =
    let m : PlacedModule = (recs (records_in c.args.«module».now.bytes), c.args.placement.now) in
    let j = c.loop-before.before in
    let there : Some (contents_seen c.in-Some.group) ≡ option_map Group (entry (groups m.0) (j + 1)) = search rules in
    let here = group-here (contents_seen c.in-Some.group) (entry (groups m.0) (j + 1)) there in
    record {
      filled = fill-more IsFrameTable c.args.self.now.by_name c.loop-before.self.by_name c.add_group.new.self.by_name (group_frames m (j + 1, here.group)) _ _ _ (groups-split m j here.group here.told)
          (c.in_ok-add_group.ensures here.group here.seen) c.loop-before.invariant.filled;
      end = c.loop-before.invariant.end;
    }

pub returns : goal.returns
returns c =
    let m : PlacedModule = (recs (records_in c.args.«module».now.bytes), c.args.placement.now) in
    let k = c.loop-before.before in
    let end = c.loop-before.invariant.end in
    fill-end IsFrameTable c.args.self.now.by_name c.loop-before.self.by_name _ _
    (ap (λ gs. flat_map (group_frames m) (enumerate_from (k + 1) gs)) (none_left (groups m.0) k (omega (arith, c.loop-before-test.false, end)))) c.loop-before.invariant.filled
