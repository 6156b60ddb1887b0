use Rattle.std.proofs.Common.{ap, drop, map}
use Rattle.std.proofs.lemmas.List.{drop_all}
use Rattle.omf_check.specs.Module.{typed_modules}
use Rattle.omf_linking.specs.Inner.Parting.{gift_seen}
use Rattle.omf_linking.proofs.PartLaws.{all-done, given-fails, given-more, none-yet}
use Rattle.omf_linking.proofs.locator.lines.Lines.give_all.Goals as goal

pub loop-gift-init : goal.loop-gift-init
loop-gift-init c = λ items at. none-yet (typed_modules c.args.modules.now) items (map gift_seen c.args.gifts.now) c.args.self.now at

pub loop-gift-preserved : goal.loop-gift-preserved
loop-gift-preserved c = λ items at.
    given-more (typed_modules c.args.modules.now) items c.args.gifts.now c.loop-gift.gift-index _ c.loop-gift-test.true c.loop-gift.self c.give.new.self c.args.line (c.loop-gift.invariant items at) c.give.result c.give.ensures _ c.in-Ok.is

pub returns-in-Err : goal.returns-in-Err
returns-in-Err c items at =
    given-fails (typed_modules c.args.modules.now) items c.args.gifts.now c.loop-gift.gift-index _ c.loop-gift-test.true c.loop-gift.self c.give.new.self c.args.line (c.loop-gift.invariant items at) c.give.result c.give.ensures c.in-Err.fault c.in-Err.is

pub returns : goal.returns
returns c items at =
    let gs = c.args.gifts.now in
    let k = c.loop-gift.gift-index in
    all-done (typed_modules c.args.modules.now) items (map gift_seen gs) c.loop-gift.self c.args.line (map gift_seen (drop k gs)) (ap (map gift_seen) (drop_all k gs c.loop-gift-test.false)) (c.loop-gift.invariant items at) _
