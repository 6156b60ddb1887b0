use Rattle.std.proofs.Common.{◌≡◌, ◌+◌, ◌∙◌, ◌++◌, [], ap, drop, length, rules, sym}
use Rattle.std.specs.Prelude.{flat_map}
use Rattle.omf_check.specs.Module.{records_in, typed_modules}
use Rattle.omf_check.specs.WellFormed.{recs}
use Rattle.omf_placement.specs.Weak.{weak_pairs}
use Rattle.omf_placement.proofs.WeakLaws.{next_one, no_items, none_left}
use Rattle.omf_placement.proofs.several.weak.has_pairs.Goals as goal

pub loop-module-preserved : goal.loop-module-preserved
loop-module-preserved c =
    let ms = c.args.modules.now in
    let j = c.loop-module.module-index in
    let m = recs (records_in c.module-item.result.bytes) in
    let count : length c.in_ok-pairs.pairs.items ≡ 0 = search rules in
    let none = no_items c.in_ok-pairs.pairs.items count in
    let own : weak_pairs m ≡ [] = sym c.in_ok-pairs.ensures ∙ none in
    ap (λ ps. ps ++ flat_map weak_pairs (typed_modules (drop (j + 1) ms))) (sym own) ∙ ap (flat_map weak_pairs) (sym (next_one ms j c.module-item.result c.module-item.is c.loop-module-test.true)) ∙ c.loop-module.invariant

pub returns : goal.returns
returns c = λ e. sym c.loop-module.invariant ∙ ap (flat_map weak_pairs) (none_left c.args.modules.now c.loop-module.module-index c.loop-module-test.false)
