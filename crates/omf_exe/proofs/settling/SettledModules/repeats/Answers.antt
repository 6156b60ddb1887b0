use Rattle.std.proofs.Common.{subst}
use Rattle.std.specs.Prelude.{false}
use Rattle.omf_exe.specs.Refusing.{HaveNamesTwice}
use Rattle.omf_exe.proofs.settling.SettledModules.repeats.Goals as goal

pub returns : goal.returns
returns c = λ f. subst (λ ms. HaveNamesTwice ms false) c.self.view_is (c.self.invariant.apart f)
