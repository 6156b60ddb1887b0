use Rattle.std.proofs.Common.{◌≡◌, ◌∙◌, ap, rules, subst, sym}
use Rattle.std.specs.Prelude.{Some, Ok}
use Rattle.omf_check.specs.Checking.{Decides}
use Rattle.omf_check.specs.Module.{typed_modules}
use Rattle.omf_combining.specs.Stack.{stack_bytes}
use Rattle.omf_exe.specs.Adding.{IsStackOf}
use Rattle.omf_exe.specs.Sharing.{IsCheckedOf}
use Rattle.omf_exe.proofs.added.stack_of.Goals as goal

pub returns-in-Ok : goal.returns-in-Ok
returns-in-Ok c =
    let bytes = c.in-Some-2.bytes.items in
    let given = ap (λ d. d.bytes) c.new.ensures ∙ ap Some c.deref.ensures.value in
    let checked = subst (λ p. Decides p bytes (Ok c.in-Ok.module)) c.any_profile.ensures (c.in-Ok.ensures.verdict bytes given) in
    let there : stack_bytes (typed_modules c.args.modules.now) c.in-Some.size ≡ Some bytes = search rules in
    subst (λ o. IsStackOf c.args.modules.now o (Some c.in-Ok.module)) (sym c.in-Some.is) (subst (λ o. IsCheckedOf o (Some c.in-Ok.module)) (sym there) checked)
