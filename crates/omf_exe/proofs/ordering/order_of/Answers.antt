use Rattle.std.proofs.Common.{◌∙◌, ap, subst}
use Rattle.std.specs.Prelude.{Some, Ok}
use Rattle.omf_check.specs.Checking.{Decides}
use Rattle.omf_aliases.specs.Aliases.{any_profile}
use Rattle.omf_exe.proofs.ordering.order_of.Goals as goal

pub returns-in-Ok-check-clause-order : goal.returns-in-Ok-check-clause-order
returns-in-Ok-check-clause-order c =
    let given = ap (λ d. d.bytes) c.new.ensures ∙ ap Some c.deref.ensures.value in
    subst (λ bs. Decides any_profile bs (Ok c.in-Ok-check.module)) c.in-Ok.ensures.ok
    (subst (λ p. Decides p c.in-Ok.bytes.items (Ok c.in-Ok-check.module)) c.any_profile.ensures (c.in-Ok-check.ensures.verdict c.in-Ok.bytes.items given))
