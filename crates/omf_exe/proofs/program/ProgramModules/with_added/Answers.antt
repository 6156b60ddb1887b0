use Rattle.std.proofs.Common.{subst}
use Rattle.std.specs.Prelude.{IfErr, IfOk}
use Rattle.omf_exe.specs.Adding.{IsStackOf, least_stack}
use Rattle.omf_exe.specs.Origins.{AreAllWith}
use Rattle.omf_exe.specs.Refusing.{AreNotAdded, IsRefusalFor}
use Rattle.omf_exe.proofs.AddingLaws.{all-with, none-with}
use Rattle.omf_exe.proofs.program.ProgramModules.with_added.Goals as goal

pub returns-clause-added : goal.returns-clause-added
returns-clause-added c =
    let o = c.args.options.now in
    let joined = c.in-Ok-with_added.modules.items in
    let asked = subst (λ n. IsStackOf c.deref.result.now n c.in-Ok.stack) c.least_stack-asked.ensures c.in-Ok.ensures in
    let stacked = subst (λ xs. IsStackOf xs (least_stack o.kind o.stack) c.in-Ok.stack) c.deref.ensures.value asked in
    subst (λ s. IfOk c.in_order.result (AreAllWith o.kind o.stack o.order s.modules s.from)) c.self.view_is
    (all-with o.kind o.stack o.order c.self.inside.modules.items c.self.inside.from.items c.in_ok-shared.shared.items c.in-Ok.stack joined c.in_order.result
    c.in_ok-shared.ensures.shared stacked c.in-Ok-with_added.ensures c.in_order.ensures.ordered c.in_order.ensures.from)

pub returns-clause-refused : goal.returns-clause-refused
returns-clause-refused c =
    let o = c.args.options.now in
    let joined = c.in-Ok-with_added.modules.items in
    let asked = subst (λ n. IsStackOf c.deref.result.now n c.in-Ok.stack) c.least_stack-asked.ensures c.in-Ok.ensures in
    let stacked = subst (λ xs. IsStackOf xs (least_stack o.kind o.stack) c.in-Ok.stack) c.deref.ensures.value asked in
    subst (λ s. IfErr c.in_order.result (IsRefusalFor (AreNotAdded o.kind o.stack o.order s.modules))) c.self.view_is
    (none-with o.kind o.stack o.order c.self.inside.modules.items c.self.inside.from.items c.in_ok-shared.shared.items c.in-Ok.stack joined c.in_order.result
    c.in_ok-shared.ensures.shared stacked c.in-Ok-with_added.ensures c.in_order.ensures.refused)
