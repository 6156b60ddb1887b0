use Rattle.std.proofs.Common.{◌≡◌, ◌∙◌, ◌∷◌, [], List, ℕ, ap, sym, subst, arith, length, rules}
use Rattle.std.specs.Prelude.{map}
use Rattle.std.specs.Vec.Iter.{into_iter_items}
use Rattle.std.proofs.lemmas.List.{nil_from_length}
use Rattle.omf_check.specs.Module.{Module, typed_modules}
use Rattle.omf_trimming.specs.Inner.Reaching.{AreUnreached}
use Rattle.omf_trimming.specs.Without.{IsWithout}
use Rattle.omf_trimming.proofs.UnreachedLaws.{left-ends, left-more, left-starts}
use Rattle.omf_trimming.proofs.reaching.without_unreached.Goals as goal

pub loop-module-init : goal.loop-module-init
loop-module-init c =
    let ms = c.args.modules.items in
    let gone : AreUnreached c.args.left_out (typed_modules ms) (map (λ g. g.items) (into_iter_items c.into_iter-left.result)) =
    subst (AreUnreached c.args.left_out (typed_modules ms)) (sym (ap (map (λ g. g.items)) c.into_iter-left.ensures.rest))
    (subst (λ (xs : List Module). AreUnreached c.args.left_out (typed_modules xs) (map (λ g. g.items) c.in_ok-unreached.unreached.items)) c.deref.ensures.value c.in_ok-unreached.ensures) in
    record {
      size = search rules;
      so_far = left-starts c.args.publics c.args.left_out ms (into_iter_items c.into_iter-module-iterator.result) (map (λ g. g.items) (into_iter_items c.into_iter-left.result)) c.new-all.result.items
          c.into_iter-module-iterator.ensures.into_iter_gives.0 gone (let e : c.new-all.result.items ≡ [] = search rules in e);
    }

pub loop-module-preserved : goal.loop-module-preserved
loop-module-preserved c =
    let left = into_iter_items c.loop-module.module-iterator in
    let steps : left ≡ c.in-Some.module ∷ into_iter_items c.next.new.self = c.in-Some.ensures.steps.0 in
    let drops = c.in-Some.ensures.steps.1 in
    let g : List ℕ = c.in-Some-next.gone.items in
    let gone : into_iter_items c.loop-module.left ≡ c.in-Some-next.gone ∷ into_iter_items c.next-in-loop-module.new.self = search rules in
    let is : IsWithout c.args.publics g c.in-Some.module c.in_ok-without.field-0 =
    subst (λ (xs : List ℕ). IsWithout c.args.publics xs c.in-Some.module c.in_ok-without.field-0) c.deref-in-loop-module.ensures.value c.in_ok-without.ensures in
    record {
      size = omega (arith, ap length steps, drops, c.loop-module.invariant.size);
      so_far = left-more c.args.publics c.args.left_out c.args.modules.items left (into_iter_items c.next.new.self) (map (λ v. v.items) (into_iter_items c.loop-module.left)) (map (λ v. v.items) (into_iter_items c.next-in-loop-module.new.self)) c.loop-module.all.items
          c.push.new.self.items c.in-Some.module c.in_ok-without.field-0 g steps (ap (map (λ v. v.items)) gone) c.in_ok-push.ensures.items is c.loop-module.invariant.so_far;
    }

pub returns : goal.returns
returns c =
    let left = into_iter_items c.loop-module.module-iterator in
    left-ends c.args.publics c.args.left_out c.args.modules.items left (map (λ v. v.items) (into_iter_items c.loop-module.left)) c.loop-module.all.items c.loop-module.invariant.so_far
    (nil_from_length left (sym c.loop-module.invariant.size ∙ c.in-None.ensures.steps.0))
