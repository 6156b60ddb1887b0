use Rattle.std.proofs.Common.{inl, inr, refl, subst}
use Rattle.omf_lowering.specs.Inner.Rolling.{IsFaultOf}
use Rattle.omf_lowering.specs.declared.fault.LoweringFault.TheVariants as lowering
use Rattle.omf_lowering.proofs.FrontLaws.{moved}
use Rattle.omf_lowering.proofs.lowering.fixup_fault.Goals as goal

pub returns-in-Ok : goal.returns-in-Ok
returns-in-Ok c =
    let place = c.in-Ok.place in
    let f = c.fault.inside in
    subst (λ e. IsFaultOf c.args.bytes.now c.args.wanted e (lowering.Refused f.reason (record { number = place.number; start = place.start; within = f.within }))) c.fault.view_is
    (inr (record { number = place.number; start = place.start; within = f.within }, refl, refl, moved c.args.bytes.now c.args.wanted f.within place c.in-Ok.ensures.ok))

pub returns-in-Err : goal.returns-in-Err
returns-in-Err c = inl c.in-Err.ensures.err
