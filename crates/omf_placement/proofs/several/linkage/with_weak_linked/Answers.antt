use Rattle.std.proofs.Common.{◌≡◌, ◌∙◌, ◌++◌, ap, append-nil, sym, false}
use Rattle.omf_check.specs.Module.{typed_modules}
use Rattle.omf_placement.specs.Derive.{placed_modules}
use Rattle.omf_placement.specs.Inner.Linkage.{Known}
use Rattle.omf_placement.proofs.WeakLaws.{none_given}
use Rattle.omf_placement.proofs.several.linkage.with_weak_linked.Goals as goal

pub returns-then-not-linkage : goal.returns-then-not-linkage
returns-then-not-linkage c =
    let ms = placed_modules c.args.modules.now c.args.places.now in
    let given = c.args.given.now in
    let weak : c.args.linkage.now.is_weak ≡ false = sym (ap (λ (k : Known). k.is_weak) c.linkage.view_is) ∙ c.if-not-linkage.true in
    let none = none_given ms given 0 (typed_modules c.args.modules.now) c.args.places.now (c.requires.linked.strong weak) in
    c.in_ok-entries.ensures.items_if_clones_equal (λ x y e. e) ∙ sym (ap (λ gs. given ++ gs) none ∙ append-nil given)
