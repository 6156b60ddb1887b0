use Rattle.std.proofs.Common.{◌≡◌, ◌∷◌, ◌∙◌, ap, arith, length, sym}
use Rattle.std.proofs.lemmas.List.{nil_from_length}
use Rattle.std.specs.Vec.Iter.{into_iter_items}
use Rattle.omf_linking.proofs.FoldLaws.{folded-end, folded-more}
use Rattle.omf_linking.proofs.folding.modules.folded_all.Goals as goal

pub loop-module-preserved : goal.loop-module-preserved
loop-module-preserved c =
    let steps : into_iter_items c.loop-module.module-iterator ≡ c.in-Some.module ∷ into_iter_items c.next.new.self = c.in-Some.ensures.steps.0 in
    let gone = c.in-Some.ensures.steps.1 in
    record {
      size = omega (arith, ap length steps, gone, c.loop-module.invariant.size);
      held = folded-more c.args.modules.items c.loop-module.all.items c.push.new.self.items _ _ c.in-Some.module c.in_ok-folded.field-0 c.loop-module.invariant.held steps c.in_ok-folded.ensures c.in_ok-push.ensures.items;
    }

pub returns : goal.returns
returns c =
    let left = into_iter_items c.loop-module.module-iterator in
    folded-end c.args.modules.items c.loop-module.all.items left c.loop-module.invariant.held (nil_from_length left (sym c.loop-module.invariant.size ∙ c.in-None.ensures.steps.0))
