use Rattle.std.proofs.Common.{◌+◌, List, take, sym, subst}
use Rattle.std.specs.List.{AllZip}
use Rattle.std.specs.Global.{Vec}
use Rattle.omf_finding.specs.Near.{HasNear}
use Rattle.omf_finding.specs.declared.nearing.Near.{Near}
use Rattle.omf_finding.proofs.TellingLaws.{zip-more, zip-end}
use Rattle.omf_finding.proofs.nearing.nearest.Goals as goal

pub loop-module-preserved : goal.loop-module-preserved
loop-module-preserved c =
    let has = HasNear c.args.program.now c.args.most in
    let ms = c.args.modules.now in
    let i = c.loop-module.module-index in
    subst (λ (ns : List (Vec Near)). AllZip has (take (i + 1) ms) ns) (sym c.in_ok-push.ensures.items)
    (zip-more has ms c.loop-module.nears.items i c.module-item.result c.in_ok-near_module.field-0 c.module-item.is c.loop-module-test.true c.loop-module.invariant c.in_ok-near_module.ensures)

pub returns : goal.returns
returns c = zip-end (HasNear c.args.program.now c.args.most) c.args.modules.now c.loop-module.nears.items c.loop-module.module-index c.loop-module-test.false c.loop-module.invariant
