use Rattle.std.proofs.Common.{◌≡◌, ◌∙◌, ap, subst, rules}
use Rattle.std.specs.Prelude.{Some, Ok, option_map}
use Rattle.omf_check.specs.Checking.{Decides}
use Rattle.omf_check.specs.Module.{typed_modules}
use Rattle.omf_layout.specs.Own.Communals.{AreCommunals}
use Rattle.omf_exe.proofs.sharing.shared_module.Goals as goal

pub returns-in-Ok-clause-shared : goal.returns-in-Ok-clause-shared
returns-in-Ok-clause-shared c =
    let bytes = c.in-Ok-Some.bytes.items in
    let given = ap (λ d. d.bytes) c.new.ensures ∙ ap Some c.deref.ensures.value in
    let same : c.in-Ok-Some.field-0 ≡ Some c.in-Ok-Some.bytes = search rules in
    record {
      bytes = Some bytes;
      communals = subst (λ h. AreCommunals h (typed_modules c.args.modules.now) (Some bytes)) c.home_of-home.ensures (subst (λ o. AreCommunals c.home_of-home.result (typed_modules c.args.modules.now) (option_map (λ v. v.items) o)) same c.in-Ok-Some.ensures.ok);
      checked = subst (λ p. Decides p bytes (Ok c.in-Ok.module)) c.any_profile.ensures (c.in-Ok.ensures.verdict bytes given);
    }
