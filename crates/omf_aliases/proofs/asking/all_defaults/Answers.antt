use Rattle.std.proofs.Common.{◌∙◌, ◌++◌, ap}
use Rattle.std.specs.Prelude.{flat_map}
use Rattle.omf_check.specs.Module.{recs_of, typed_modules}
use Rattle.omf_placement.proofs.WeakLaws.{entries_more, no_entries}
use Rattle.omf_aliases.specs.Aliases.{defaults}
use Rattle.omf_placement.proofs.StepLaws.{next_item, none_left}
use Rattle.omf_aliases.proofs.asking.all_defaults.Goals as goal

pub loop-module-preserved : goal.loop-module-preserved
loop-module-preserved c ms h =
    let modules = c.args.modules.now in
    let i = c.loop-module.module-index in
    let m = c.module-item.result in
    let old = c.loop-module.all.items in
    entries_more old c.move_all.new.all.items (defaults ms (recs_of m.bytes)) _ _ _
    (c.in_ok-move_all.ensures ∙ ap (λ ds. old ++ ds) (c.in_ok-defaults_of.ensures ms h))
    (ap (λ ns. flat_map (defaults ms) (typed_modules ns)) (next_item modules i m c.module-item.is c.loop-module-test.true)) (c.loop-module.invariant ms h)

pub returns : goal.returns
returns c ms h =
    let i = c.loop-module.module-index in
    no_entries c.loop-module.all.items _ _ (ap (λ ns. flat_map (defaults ms) (typed_modules ns)) (none_left c.args.modules.now i c.loop-module-test.false)) (c.loop-module.invariant ms h)
