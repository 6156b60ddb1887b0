use Rattle.std.proofs.Common.{◌+◌, List, take, sym, subst}
use Rattle.std.specs.List.{AllZip}
use Rattle.std.specs.Global.{Vec}
use Rattle.omf_finding.specs.Inner.Shaping.{HasShapes}
use Rattle.omf_finding.specs.declared.shapes.Shape.{Shape}
use Rattle.omf_finding.proofs.TellingLaws.{zip-more, zip-end}
use Rattle.omf_finding.proofs.shapes.shapes_of.Goals as goal

pub loop-module-preserved : goal.loop-module-preserved
loop-module-preserved c =
    let has = HasShapes c.args.program.now c.args.most in
    let ms = c.args.modules.now in
    let i = c.loop-module.module-index in
    subst (λ (ss : List (Vec Shape)). AllZip has (take (i + 1) ms) ss) (sym c.in_ok-push.ensures.items)
    (zip-more has ms c.loop-module.shapes.items i c.module-item.result c.in_ok-module_shapes.field-0 c.module-item.is c.loop-module-test.true c.loop-module.invariant c.in_ok-module_shapes.ensures)

pub returns : goal.returns
returns c = zip-end (HasShapes c.args.program.now c.args.most) c.args.modules.now c.loop-module.shapes.items c.loop-module.module-index c.loop-module-test.false c.loop-module.invariant
