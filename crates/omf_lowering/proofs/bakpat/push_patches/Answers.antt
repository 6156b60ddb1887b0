use Rattle.std.proofs.Common.{◌≡◌, ◌<◌, Ok, Some, length, get_or, ap, ◌∙◌, sym, rules}
use Rattle.omf_lowering.specs.Patches.{patch_at}
use Rattle.omf_lowering.specs.Lowering.{fault_of}
use Rattle.omf_lowering.proofs.Steps.{pushed_more, pushed_stop}
use Rattle.omf_lowering.proofs.bakpat.push_patches.Goals as goal

pub loop-item-preserved : goal.loop-item-preserved
loop-item-preserved c =
    let items = c.args.given.now.items.items in
    let segment = c.args.given.now.segment.item in
    let f = patch_at c.args.pieces.now segment c.args.given.now.part in
    let low : c.loop-item.item-index < length items = search rules in
    let here : c.item-item.result ≡ get_or items c.loop-item.item-index c.item-item.result = search rules in
    let found : f c.item-item.result ≡ Ok c.in-Ok.patch = search rules in
    pushed_more f (λ p. p) c.args.patches.now.items c.loop-item.patches.items c.push.new.self.items items c.loop-item.item-index c.item-item.result c.item-item.result c.in-Ok.patch low here found c.in_ok-push-in-Ok.ensures.items c.loop-item.invariant

pub returns-in-Err-clause-err : goal.returns-in-Err-clause-err
returns-in-Err-clause-err c =
    let items = c.args.given.now.items.items in
    let f = patch_at c.args.pieces.now c.args.given.now.segment.item c.args.given.now.part in
    let low : c.loop-item.item-index < length items = search rules in
    let here : c.item-item.result ≡ get_or items c.loop-item.item-index c.item-item.result = search rules in
    let refused : fault_of (f c.item-item.result) ≡ Some c.in-Err.fault = search rules in
    pushed_stop f (λ p. p) c.args.patches.now.items c.loop-item.patches.items items c.loop-item.item-index c.item-item.result c.in-Err.fault low
    (ap (λ x. fault_of (f x)) (sym here) ∙ refused) c.loop-item.invariant
