use Rattle.std.proofs.Common.{◌∙◌, arith, ap, length, sym}
use Rattle.std.specs.Prelude.{List}
use Rattle.omf_check.specs.Tables.{segments}
use Rattle.omf_placement.specs.Derive.{placed_modules}
use Rattle.omf_records.specs.Values.{Rec}
use Rattle.omf_linking.specs.Segments.{with_images}
use Rattle.omf_linking.proofs.SegmentsLaws.{next_of, no_module, count_next, all_counted}
use Rattle.omf_linking.proofs.segments.ModuleSegments.count.Goals as goal

pub loop-module-preserved : goal.loop-module-preserved
loop-module-preserved c =
    let s = c.args.self.now in
    let i = c.loop-module.module-index in
    let ms = with_images (placed_modules s.modules.now s.placements.now) s.relocated.now in
    let at = c.loop-module.invariant in
    let next = next_of s.modules.now s.placements.now s.relocated.now i c.module-item.result c.module-item.is c.loop-module-test.true c.requires.1 c.requires.2 in
    let many = c.from-count.ensures ∙ c.segments.ensures.count ∙ ap (λ (m : List Rec). length (segments m)) (sym next.1) in
    let few = c.segments.ensures.bounded in
    let same = c.from-count.ensures in
    record {
      counted = count_next ms i next.0 next.2 c.loop-module.count c.from-count.result many at.counted;
      few = omega (arith, at.few, few, same);
    }

pub returns : goal.returns
returns c =
    let s = c.args.self.now in
    let i = c.loop-module.module-index in
    let ms = with_images (placed_modules s.modules.now s.placements.now) s.relocated.now in
    all_counted ms i c.loop-module.count (no_module s.modules.now s.placements.now s.relocated.now i c.loop-module-test.false) c.loop-module.invariant.counted
