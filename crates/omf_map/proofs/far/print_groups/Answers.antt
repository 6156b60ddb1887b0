use Rattle.std.proofs.Common.{◌≡◌, ◌+◌, refl, arith}
use Rattle.omf_check.specs.Module.{records_in}
use Rattle.omf_check.specs.Tables.{groups}
use Rattle.omf_check.specs.WellFormed.{recs}
use Rattle.omf_map.specs.Far.{group_line}
use Rattle.omf_linking.proofs.KeyLaws.{entry-here}
use Rattle.omf_placement.proofs.StepLaws.{next_entry, one_more, all_printed, none_left}
use Rattle.omf_map.proofs.far.print_groups.Goals as goal

pub loop-before-init : goal.loop-before-init
loop-before-init c = record { whole = refl }

pub print_group_at-requires : goal.print_group_at-requires
print_group_at-requires c =
    let m = recs (records_in c.args.«module».now.bytes) in
    entry-here (groups m) c.loop-before.before (omega (arith, c.loop-before-test.true, c.groups-before-end.ensures.count))

pub loop-before-preserved : goal.loop-before-preserved
loop-before-preserved c =
    let m = recs (records_in c.args.«module».now.bytes) in
    let g = entry-here (groups m) c.loop-before.before (omega (arith, c.loop-before-test.true, c.groups-before-end.ensures.count)) in
    one_more (group_line c.args.number (m, c.args.placement.now)) (groups m) c.loop-before.before _ _ g.0 _
    (next_entry (groups m) c.loop-before.before g.0 g.1) (c.in_ok-print_group_at.ensures g.0 g.1) c.loop-before.invariant

pub returns : goal.returns
returns c =
    let m = recs (records_in c.args.«module».now.bytes) in
    all_printed (group_line c.args.number (m, c.args.placement.now)) (groups m) c.loop-before.before _ _
    (none_left (groups m) c.loop-before.before (omega (arith, c.loop-before-test.false, c.groups-before-end.ensures.count))) c.loop-before.invariant
