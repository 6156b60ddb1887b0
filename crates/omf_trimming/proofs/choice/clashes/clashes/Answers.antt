use Rattle.std.proofs.Common.{◌≡◌, ◌∙◌, ◌++◌, ◌+◌, List, ap, sym, subst, take}
use Rattle.std.specs.Prelude.{flat_map}
use Rattle.omf_check.specs.Module.{Module, recs_of}
use Rattle.omf_placement.proofs.StepLaws.{none_left}
use Rattle.omf_trimming.specs.Choice.{Marked, instances}
use Rattle.omf_trimming.specs.Clashes.{clash_after}
use Rattle.omf_trimming.specs.Inner.Choosing.{AreFirsts}
use Rattle.omf_trimming.proofs.ChoiceAllLaws.{all_instances, instances-more, take-more}
use Rattle.omf_trimming.proofs.ClashLaws.{clash-ends, clash-more}
use Rattle.omf_trimming.proofs.choice.clashes.clashes.Goals as goal

pub loop-number-preserved : goal.loop-number-preserved
loop-number-preserved c =
    let ms : List Module = c.args.modules.now in
    let i = c.loop-number.number in
    let x : Module = c.index-modules-number.result in
    let earlier = take i ms in
    let before = all_instances earlier in
    let own : List Marked = c.in_ok-own.own.items in
    let is_own : own ≡ instances (recs_of x.bytes) = c.in_ok-own.ensures in
    let pushed : c.push_clashes.new.found.items ≡ c.loop-number.found.items ++ flat_map (clash_after i before) (instances (recs_of x.bytes)) =
    c.in_ok-push_clashes.ensures before c.loop-number.invariant.firsts ∙ ap (λ (is : List Marked). c.loop-number.found.items ++ flat_map (clash_after i before) is) (c.deref.ensures.value ∙ is_own) in
    let more : all_instances (take (i + 1) ms) ≡ before ++ own =
    instances-more earlier (take (i + 1) ms) x (take-more ms i x c.index-modules-number.is c.loop-number-test.true) ∙ ap (λ (is : List Marked). before ++ is) (sym is_own) in
    record {
      so_far = clash-more ms i x c.loop-number.found.items c.push_clashes.new.found.items c.index-modules-number.is c.loop-number-test.true pushed c.loop-number.invariant.so_far;
      firsts = subst (λ (is : List Marked). AreFirsts c.add_all.new.self.by_name is) (sym more) (c.in_ok-add_all.ensures before c.loop-number.invariant.firsts);
    }

pub returns : goal.returns
returns c =
    let ms : List Module = c.args.modules.now in
    clash-ends ms c.loop-number.number c.loop-number.found.items c.loop-number.invariant.so_far (none_left ms c.loop-number.number c.loop-number-test.false)
