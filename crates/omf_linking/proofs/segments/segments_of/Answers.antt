use Rattle.std.proofs.Common.{◌≡◌, ◌+◌, ◌∷◌, drop}
use Rattle.omf_check.specs.Module.{records_in}
use Rattle.omf_check.specs.WellFormed.{recs}
use Rattle.omf_placement.specs.Derive.{placed_modules}
use Rattle.omf_linking.specs.Segments.{ModuleBytes, image_bytes, with_images}
use Rattle.omf_linking.proofs.SegmentsLaws.{next_module, no_module, one_gathered, all_gathered}
use Rattle.omf_linking.proofs.segments.segments_of.Goals as goal

pub loop-j-preserved : goal.loop-j-preserved
loop-j-preserved c =
    let ms = with_images (placed_modules c.args.modules.now c.args.placements.now) c.args.relocated.now in
    let j = c.loop-j.j in
    let m : ModuleBytes = ((recs (records_in c.index-modules-j.result.bytes), c.index-placements-j.result), image_bytes c.index-relocated-j.result) in
    let next : drop j ms ≡ m ∷ drop (j + 1) ms
    = next_module c.args.modules.now c.args.placements.now c.args.relocated.now j c.index-modules-j.result c.index-placements-j.result c.index-relocated-j.result
    c.index-modules-j.is c.index-placements-j.is c.index-relocated-j.is c.loop-j-test.true c.requires.placed c.requires.relocated in
    one_gathered ms j m c.loop-j.segments.items c.add_module.new.segments.items next c.in_ok-add_module.ensures c.loop-j.invariant

pub returns : goal.returns
returns c =
    let ms = with_images (placed_modules c.args.modules.now c.args.placements.now) c.args.relocated.now in
    all_gathered ms c.loop-j.j c.loop-j.segments.items (no_module c.args.modules.now c.args.placements.now c.args.relocated.now c.loop-j.j c.loop-j-test.false) c.loop-j.invariant
