use Rattle.std.proofs.Common.{◌+◌, ap, drop, false}
use Rattle.omf_check.specs.Module.{records_in}
use Rattle.omf_check.specs.WellFormed.{recs}
use Rattle.omf_placement.specs.Derive.{all_publics, placed_modules, publics}
use Rattle.omf_placement.proofs.StepLaws.{next-pair, no-pair, part_more, no_part_left}
use Rattle.omf_listing.proofs.public.all_publics.Goals as goal

pub loop-j-preserved : goal.loop-j-preserved
loop-j-preserved c =
    let j = c.loop-j.j in
    let ms = placed_modules c.args.modules.now c.args.placements.now in
    let next = next-pair c.args.modules.now c.args.placements.now j c.index-modules-j.result c.index-placements-j.result c.index-modules-j.is c.index-placements-j.is c.loop-j-test.true c.requires in
    part_more _ _ (publics false (recs (records_in c.index-modules-j.result.bytes), c.index-placements-j.result)) (all_publics (drop (j + 1) ms)) _ _ c.in_ok-push_module.ensures
    (ap all_publics next) c.loop-j.invariant

pub returns : goal.returns
returns c = no_part_left _ _ _ (ap all_publics (no-pair c.args.modules.now c.args.placements.now c.loop-j.j c.loop-j-test.false)) c.loop-j.invariant
