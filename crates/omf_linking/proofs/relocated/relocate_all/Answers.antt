use Rattle.std.proofs.Common.{◌≡◌, ◌+◌, ◌∷◌, ◌∙◌, [], drop, length, ap, arith}
use Rattle.std.proofs.lemmas.List.{length-append}
use Rattle.omf_check.specs.Module.{records_in}
use Rattle.omf_check.specs.WellFormed.{recs}
use Rattle.omf_placement.specs.Derive.{PlacedModule, placed_modules}
use Rattle.omf_placement.proofs.TableLaws.{next-placed, none-left}
use Rattle.omf_linking.proofs.RelocatedLaws.{one_relocated, all_relocated}
use Rattle.omf_linking.proofs.relocated.relocate_all.Goals as goal

pub loop-j-preserved : goal.loop-j-preserved
loop-j-preserved c =
    let ms = placed_modules c.args.modules.now c.args.placements.now in
    let j = c.loop-j.j in
    let m : PlacedModule = (recs (records_in c.index-modules-j.result.bytes), c.index-placements-j.result) in
    let next : drop j ms ≡ m ∷ drop (j + 1) ms
    = next-placed c.args.modules.now c.args.placements.now j c.index-modules-j.result c.index-placements-j.result c.index-modules-j.is c.index-placements-j.is c.loop-j-test.true c.requires.placed in
    let grown = ap length c.in-Ok-push.ensures.items ∙ length-append c.loop-j.relocated.items (c.in-Ok.at ∷ []) in
    record {
      relocated = one_relocated ms j m next c.loop-j.relocated.items c.push.new.self.items c.in-Ok.at c.in-Ok-push.ensures.items c.in-Ok.ensures c.loop-j.invariant.relocated;
      counted = omega (arith, grown, c.loop-j.invariant.counted);
    }

pub returns-clause-relocated : goal.returns-clause-relocated
returns-clause-relocated c =
    let ms = placed_modules c.args.modules.now c.args.placements.now in
    all_relocated ms c.loop-j.j c.loop-j.relocated.items (none-left c.args.modules.now c.args.placements.now c.loop-j.j c.loop-j-test.false) c.loop-j.invariant.relocated
