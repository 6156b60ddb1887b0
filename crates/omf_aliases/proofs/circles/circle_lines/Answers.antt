use Rattle.std.proofs.Common.{◌∙◌, [], ap, map}
use Rattle.std.proofs.lemmas.List.{map-append}
use Rattle.omf_check.specs.Module.{recs_of, typed_modules}
use Rattle.omf_library.specs.Aliases.{alias_pairs}
use Rattle.omf_placement.proofs.Filling.{fill-more, fill-end}
use Rattle.omf_placement.proofs.StepLaws.{next_item, none_left}
use Rattle.omf_aliases.specs.Aliases.{all_pairs}
use Rattle.omf_aliases.specs.Inner.Circles.{HasShown}
use Rattle.omf_aliases.proofs.circles.circle_lines.Goals as goal

pub loop-module-preserved : goal.loop-module-preserved
loop-module-preserved c =
    let modules = c.args.modules.now in
    let ms = typed_modules modules in
    let j = c.loop-module.module-index in
    let m = c.module-item.result in
    fill-more (HasShown ms) c.new-circles.result c.loop-module.circles c.put_module.new.self (map (λ p. p.alias) (alias_pairs (recs_of m.bytes))) _ _ _
    (ap (λ ns. map (λ p. p.alias) (all_pairs (typed_modules ns))) (next_item modules j m c.module-item.is c.loop-module-test.true)
    ∙ map-append (λ p. p.alias) (alias_pairs (recs_of m.bytes)) _)
    (c.in_ok-put_module.ensures ms c.in_ok-aliases.ensures) c.loop-module.invariant

pub returns : goal.returns
returns c =
    let modules = c.args.modules.now in
    let ms = typed_modules modules in
    let filled = fill-end (HasShown ms) c.new-circles.result c.loop-module.circles _ _
    (ap (λ ns. map (λ p. p.alias) (all_pairs (typed_modules ns))) (none_left modules c.loop-module.module-index c.loop-module-test.false)) c.loop-module.invariant in
    (filled [] (c.new-circles.ensures ms)).lines
