use Rattle.std.proofs.Common.{◌≡◌, rules, subst, sym}
use Rattle.std.specs.Prelude.{Err, IfErr}
use Rattle.omf_exe.specs.Program.{ProgramModules}
use Rattle.omf_exe.specs.Refusing.{AreNotOrdered, IsRefusalFor}
use Rattle.omf_exe.proofs.program.ProgramModules.in_dos_order.Goals as goal

pub returns-in_err-modules-clause-refused : goal.returns-in_err-modules-clause-refused
returns-in_err-modules-clause-refused c =
    let f = c.in_err-modules.field-0.0 in
    let same : c.from_residual.result ≡ Err f = search rules in
    subst (λ r. IfErr r (IsRefusalFor (AreNotOrdered c.args.self.modules))) (sym same)
    (subst (λ (p : ProgramModules). IsRefusalFor (AreNotOrdered p.modules) f) c.self.view_is c.in_err-modules.ensures.refused)
