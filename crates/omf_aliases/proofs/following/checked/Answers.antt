use Rattle.std.proofs.Common.{ap, subst}
use Rattle.std.specs.Prelude.{Err, Ok}
use Rattle.omf_check.specs.Checking.{Decides}
use Rattle.omf_check.specs.declared.fault.CheckFault.TheVariants.{Refused}
use Rattle.omf_aliases.proofs.following.checked.Goals as goal

pub returns-in-Ok : goal.returns-in-Ok
returns-in-Ok c m ds h =
    let bytes = c.args.bytes.now in
    (bytes, h, subst (λ p. Decides p bytes (Ok c.in-Ok.«module»)) c.any_profile.ensures (c.in-Ok.ensures.verdict bytes (ap (λ d. d.bytes) c.new.ensures)))

pub returns-in-Err-Refused : goal.returns-in-Err-Refused
returns-in-Err-Refused c m ds h =
    let bytes = c.args.bytes.now in
    let held = subst (λ f. Decides c.any_profile.result bytes (Err f)) c.in-Err-Refused.field-0-is (c.in-Err-Refused.ensures.verdict bytes (ap (λ d. d.bytes) c.new.ensures)) in
    (bytes, h, subst (λ p. Decides p bytes (Err (Refused c.in-Err-Refused.reason c.in-Err-Refused.place))) c.any_profile.ensures held)
