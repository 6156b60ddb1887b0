use Rattle.std.specs.Prelude.{Some, None}
use Rattle.omf_check.specs.Module.{typed_modules}
use Rattle.omf_layout.proofs.HomeLaws.{home-by}
use Rattle.omf_layout.proofs.own.homes.home_of.Goals as goal

pub returns-in-Some : goal.returns-in-Some
returns-in-Some c = home-by (typed_modules c.args.modules.now) c.args.segment _ _ (Some c.in-Some.group) c.name.view_is c.class.view_is c.in-Some.ensures

pub returns-in-None : goal.returns-in-None
returns-in-None c = home-by (typed_modules c.args.modules.now) c.args.segment _ _ None c.name.view_is c.class.view_is c.in-None.ensures
