use Rattle.std.proofs.Common.{inl, inr, refl, subst}
use Rattle.std.specs.Prelude.{IfNone, IfSome}
use Rattle.omf_lowered.specs.Checked.{IsRefusedAsWritten, IsUnloweredBy}
use Rattle.omf_making.specs.Taken.{IsLoweringOf}
use Rattle.omf_making.proofs.taken.judge_lowering.Goals as goal

pub returns-in-Ok-Some : goal.returns-in-Ok-Some
returns-in-Ok-Some c =
    inr (c.args.own, c.requires, subst (λ found. IfSome found (IsLoweringOf c.args.profile c.args.bytes.now)) c.in-Ok-Some.field-0-is c.in-Ok-Some.ensures.some)

pub returns-in-Ok-None : goal.returns-in-Ok-None
returns-in-Ok-None c =
    let refused = subst (λ found. IfNone found (IsRefusedAsWritten c.args.profile c.args.bytes.now)) c.in-Ok-None.field-0-is c.in-Ok-None.ensures.none in
    (c.args.own, c.requires, inl (refused, refl))

pub returns-in-Err-Refused : goal.returns-in-Err-Refused
returns-in-Err-Refused c =
    let fault = subst (IsUnloweredBy c.args.profile c.args.bytes.now) c.in-Err-Refused.field-0-is c.in-Err-Refused.ensures.fault in
    (c.args.own, c.requires, inr (c.in-Err-Refused.reason, c.in-Err-Refused.place, fault, c.shown.ensures))
