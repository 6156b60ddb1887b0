use Rattle.std.proofs.Common.{◌≡◌, ◌∙◌, ◌∷◌, [], ap, sym, arith, length, rules}
use Rattle.std.specs.Vec.Iter.{into_iter_items}
use Rattle.std.proofs.lemmas.List.{nil_from_length}
use Rattle.omf_communals.proofs.ModuleLaws.{module_more, no_module_left, none_yet}
use Rattle.omf_communals.proofs.communals.all_with_communals.Goals as goal

pub loop-module-init : goal.loop-module-init
loop-module-init c = record {
  size = search rules;
  so_far = none_yet c.args.modules.items (into_iter_items c.into_iter-module-iterator.result) c.new-all.result.items c.into_iter-module-iterator.ensures.into_iter_gives.0
      (let e : c.new-all.result.items ≡ [] = search rules in e);
}

pub loop-module-preserved : goal.loop-module-preserved
loop-module-preserved c =
    let left = into_iter_items c.loop-module.module-iterator in
    let steps : left ≡ c.in-Some.module ∷ into_iter_items c.next.new.self = c.in-Some.ensures.steps.0 in
    let drops = c.in-Some.ensures.steps.1 in
    record {
      size = omega (arith, ap length steps, drops, c.loop-module.invariant.size);
      so_far = module_more c.args.modules.items left (into_iter_items c.next.new.self) c.loop-module.all.items c.push.new.self.items c.in-Some.module c.in_ok-with_communals.field-0 steps c.in_ok-push.ensures.items
          c.in_ok-with_communals.ensures c.loop-module.invariant.so_far;
    }

pub returns : goal.returns
returns c =
    let left = into_iter_items c.loop-module.module-iterator in
    no_module_left c.args.modules.items left c.loop-module.all.items (nil_from_length left (sym c.loop-module.invariant.size ∙ c.in-None.ensures.steps.0)) c.loop-module.invariant.so_far
