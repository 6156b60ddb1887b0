use Rattle.std.proofs.Common.{◌≡◌, ◌+◌, ◌∷◌, drop, refl}
use Rattle.omf_check.specs.Module.{records_in}
use Rattle.omf_check.specs.WellFormed.{recs}
use Rattle.omf_placement.specs.Derive.{PlacedModule, placed_modules}
use Rattle.omf_map.specs.Far.{group_lines}
use Rattle.omf_placement.proofs.StepLaws.{all_printed, next-pair, no-pair, one_more}
use Rattle.omf_map.proofs.far.print_all_groups.Goals as goal

pub loop-j-init : goal.loop-j-init
loop-j-init c = record { whole = refl }

pub loop-j-preserved : goal.loop-j-preserved
loop-j-preserved c =
    let ms = placed_modules c.args.modules.now c.args.placements.now in
    let j = c.loop-j.j in
    let m : PlacedModule = (recs (records_in c.index-modules-j.result.bytes), c.index-placements-j.result) in
    let next : drop j ms ≡ m ∷ drop (j + 1) ms
    = next-pair c.args.modules.now c.args.placements.now j c.index-modules-j.result c.index-placements-j.result c.index-modules-j.is c.index-placements-j.is c.loop-j-test.true c.requires in
    one_more group_lines ms j _ _ m _ next c.in_ok-print_groups.ensures c.loop-j.invariant

pub returns : goal.returns
returns c =
    all_printed group_lines (placed_modules c.args.modules.now c.args.placements.now) c.loop-j.j _ _ (no-pair c.args.modules.now c.args.placements.now c.loop-j.j c.loop-j-test.false) c.loop-j.invariant
