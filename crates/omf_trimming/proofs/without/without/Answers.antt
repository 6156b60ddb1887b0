use Rattle.std.proofs.Common.{◌≡◌, ap, rules, subst}
use Rattle.std.specs.Prelude.{Result, Err}
use Rattle.omf_check.specs.Checking.{Decides}
use Rattle.omf_check.specs.Module.{Module}
use Rattle.omf_check.specs.declared.fault.CheckFault.{CheckFault}
use Rattle.omf_check.specs.declared.fault.CheckFault.TheVariants as check_fault
use Rattle.omf_check.proofs.ListedLaws.{not_empty}
use Rattle.omf_trimming.proofs.WithoutLaws.{without-found, without-refused}
use Rattle.omf_trimming.proofs.without.without.Goals as goal

pub returns-in-Ok : goal.returns-in-Ok
returns-in-Ok c =
    let m : Module = c.args.«module» in
    let o : Module = c.in-Ok.checked in
    let input = c.deref.result.now in
    let bytes = c.in_ok-bytes in
    let verdict = c.in-Ok.ensures.verdict input (ap (λ x. x.bytes) c.new.ensures) in
    without-found c.args.publics c.args.gone.now m input bytes.bytes.items c.profile.result c.deref.ensures.value c.profile.ensures bytes.ensures.well_formed o
    (not_empty c.args.gone.now c.is_empty.result c.is_empty.ensures c.if-is_empty.false) bytes.ensures.bytes verdict

pub unreachable-requires : goal.unreachable-requires
unreachable-requires c =
    let m : Module = c.args.«module» in
    let input = c.deref.result.now in
    let bytes = c.in_ok-bytes in
    let why = c.in-Err-Refused.field-0-0 in
    let at = c.in-Err-Refused.field-0-1 in
    let verdict = c.check.ensures.verdict input (ap (λ x. x.bytes) c.new.ensures) in
    let is : c.check.result ≡ Err (check_fault.Refused why at) = search rules in
    without-refused c.args.publics c.args.gone.now m input bytes.bytes.items c.profile.result c.deref.ensures.value c.profile.ensures bytes.ensures.well_formed why at
    (subst (λ (r : Result Module CheckFault). Decides c.profile.result input r) is verdict)
