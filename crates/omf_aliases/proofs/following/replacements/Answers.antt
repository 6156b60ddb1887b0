use Rattle.std.proofs.Common.{◌+◌, drop}
use Rattle.omf_check.specs.Module.{typed_modules}
use Rattle.omf_aliases.specs.Inner.Aliases.{IsReplacement}
use Rattle.omf_placement.proofs.StepLaws.{next_item, none_left}
use Rattle.omf_aliases.proofs.AliasLaws.{zip-end, zip-more}
use Rattle.omf_aliases.proofs.following.replacements.Goals as goal

pub loop-module-preserved : goal.loop-module-preserved
loop-module-preserved c =
    let ms = c.args.modules.now in
    let i = c.loop-module.module-index in
    let m = c.module-item.result in
    zip-more (IsReplacement (typed_modules ms)) ms (drop i ms) (drop (i + 1) ms) c.loop-module.all.items c.push.new.self.items m c.in_ok-replacement.field-0 c.loop-module.invariant
    (next_item ms i m c.module-item.is c.loop-module-test.true) (c.in_ok-replacement.ensures.made (typed_modules ms) c.in_ok-aliases.ensures) c.in_ok-push.ensures.items

pub returns-clause-made : goal.returns-clause-made
returns-clause-made c =
    let ms = c.args.modules.now in
    let i = c.loop-module.module-index in
    zip-end (IsReplacement (typed_modules ms)) ms (drop i ms) c.loop-module.all.items c.loop-module.invariant (none_left ms i c.loop-module-test.false)
