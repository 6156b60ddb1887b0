use Rattle.std.proofs.Common.{◌≡◌, ◌∙◌, List, ℕ, ap, sym, subst, rules, length}
use Rattle.std.specs.Prelude.{Result, Err}
use Rattle.omf_check.specs.Checking.{Decides}
use Rattle.omf_check.specs.Module.{Module}
use Rattle.omf_check.specs.declared.fault.CheckFault.{CheckFault}
use Rattle.omf_check.specs.declared.fault.CheckFault.TheVariants as check_fault
use Rattle.omf_communals.specs.Communals.{bytes_with}
use Rattle.omf_communals.proofs.ModuleLaws.{module-found, module-kept}
use Rattle.omf_communals.proofs.communals.with_communals.Goals as goal

pub returns-in-Ok : goal.returns-in-Ok
returns-in-Ok c =
    let m : Module = c.args.«module» in
    let o : Module = c.in-Ok.checked in
    let input = c.deref.result.now in
    let same : length o.bytes ≡ length c.in_ok-bytes.bytes.items = search rules in
    let made : input ≡ bytes_with m.bytes = c.deref.ensures.value ∙ c.in_ok-bytes.ensures in
    let size : length o.bytes ≡ length input = same ∙ ap (λ (xs : List ℕ). length xs) (sym c.deref.ensures.value) in
    let verdict = c.in-Ok.ensures.verdict input (ap (λ x. x.bytes) c.new.ensures) in
    module-found m o input c.profile.result made c.profile.ensures verdict size

pub returns-in-Err-Refused : goal.returns-in-Err-Refused
returns-in-Err-Refused c =
    let m : Module = c.args.«module» in
    let input = c.deref.result.now in
    let made : input ≡ bytes_with m.bytes = c.deref.ensures.value ∙ c.in_ok-bytes.ensures in
    let verdict = c.check.ensures.verdict input (ap (λ x. x.bytes) c.new.ensures) in
    let is : c.check.result ≡ Err (check_fault.Refused c.in-Err-Refused.field-0-0 c.in-Err-Refused.field-0-1) = search rules in
    module-kept m input c.profile.result c.in-Err-Refused.field-0-0 c.in-Err-Refused.field-0-1 made c.profile.ensures
    (subst (λ (r : Result Module CheckFault). Decides c.profile.result input r) is verdict)
