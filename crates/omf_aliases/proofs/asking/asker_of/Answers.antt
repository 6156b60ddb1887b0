use Rattle.std.proofs.Common.{◌∙◌, ap, subst}
use Rattle.std.specs.Prelude.{Some, Ok}
use Rattle.omf_check.specs.Checking.{Decides}
use Rattle.omf_layout.specs.Own.Written.{written}
use Rattle.omf_aliases.specs.Aliases.{asking_records, any_profile}
use Rattle.omf_aliases.proofs.asking.asker_of.Goals as goal

pub returns-in-Ok : goal.returns-in-Ok
returns-in-Ok c =
    let bytes = c.in_ok-bytes.bytes.items in
    let given = ap (λ d. d.bytes) c.new.ensures ∙ ap Some c.deref-2.ensures.value in
    let checked = subst (λ p. Decides p bytes (Ok c.in-Ok.module)) c.any_profile.ensures (c.in-Ok.ensures.verdict bytes given) in
    subst (λ bs. Decides any_profile bs (Ok c.in-Ok.module)) (c.in_ok-bytes.ensures ∙ ap (λ n. written (asking_records n)) (c.deref.ensures.value ∙ c.in_ok-names.ensures)) checked
