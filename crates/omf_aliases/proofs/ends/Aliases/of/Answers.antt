use Rattle.std.proofs.Common.{refl}
use Rattle.omf_check.specs.Module.{typed_modules}
use Rattle.omf_aliases.specs.Aliases.{all_pairs}
use Rattle.omf_externals.specs.Names.{all_names}
use Rattle.omf_aliases.proofs.ends.Aliases.of.Goals as goal

pub returns : goal.returns
returns c =
    let ms = typed_modules c.args.modules.now in
    record { names = all_names ms; pairs = all_pairs ms; publics = c.in_ok-publics-2.ensures; substitutes = c.in_ok-substitutes.ensures; same = λ name. refl }
