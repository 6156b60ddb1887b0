use Rattle.std.proofs.Common.{◌≡◌, rules, subst, sym}
use Rattle.std.specs.Prelude.{IfErr, Some, map}
use Rattle.omf_exe.specs.Refusing.{AreNotInClassOrder, AreNotOrderedBy, IsRefusalFor}
use Rattle.omf_exe.specs.declared.options.Order.TheVariants.{Classes}
use Rattle.omf_exe.proofs.program.ProgramModules.in_order.Goals as goal

pub returns-in-Some-Classes-clause-refused : goal.returns-in-Some-Classes-clause-refused
returns-in-Some-Classes-clause-refused c =
    let names = c.in-Some-Classes.classes in
    let asked : c.args.order.now ≡ Some (Classes names) = search rules in
    subst (λ o. IfErr c.in_class_order.result (IsRefusalFor (AreNotOrderedBy o c.args.self.modules))) (sym asked)
    (subst (λ ns. IfErr c.in_class_order.result (IsRefusalFor (AreNotInClassOrder (map (λ n. n.now) ns) c.args.self.modules))) c.deref.ensures.value c.in_class_order.ensures.refused)
