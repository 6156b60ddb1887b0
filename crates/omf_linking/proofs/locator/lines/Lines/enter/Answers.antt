use Rattle.std.proofs.Common.{refl, ◌∷◌, []}
use Rattle.omf_check.specs.Module.{typed_modules}
use Rattle.omf_linking.specs.Locator.Items.{Nothing}
use Rattle.omf_linking.proofs.WalkLaws.{more_nothing}
use Rattle.omf_linking.proofs.locator.lines.Lines.enter.Goals as goal

pub returns-in-Blank : goal.returns-in-Blank
returns-in-Blank c items at = rw c.in-Blank.is (Nothing ∷ [], refl, more_nothing (typed_modules c.args.modules.now) c.args.self.now items at)
