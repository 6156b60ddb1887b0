use Rattle.omf_check.specs.Module.{typed_modules}
use Rattle.omf_layout.proofs.HomeLaws.{home-here}
use Rattle.omf_layout.proofs.own.homes.first_home.Goals as goal

pub returns-in-Some : goal.returns-in-Some
returns-in-Some c =
    home-here (typed_modules c.args.modules.now) c.args.modules.now c.loop-module.module-index c.module-item.result c.in-Some.segment c.home_at.result
    c.module-item.is c.loop-module-test.true c.in-Some.ensures c.home_at.ensures c.loop-module.invariant
