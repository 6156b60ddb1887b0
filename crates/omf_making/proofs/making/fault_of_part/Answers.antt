use Rattle.std.proofs.Common.{refl, subst}
use Rattle.omf_making.specs.Taken.{IsJudgement, IsUntaken}
use Rattle.omf_making.proofs.MadeLaws.{part_judged}
use Rattle.omf_making.proofs.making.fault_of_part.Goals as goal

pub returns-in-Ok-Taken : goal.returns-in-Ok-Taken
returns-in-Ok-Taken c =
    let bytes = c.as_slice-bytes.result.now in
    let taken = subst (IsJudgement c.args.profile bytes) c.in-Ok-Taken.field-0-is c.in-Ok-Taken.ensures in
    part_judged c.args.profile c.args.part.now c.args.number c.in-Ok-Taken.taken c.fault_of_rest.result bytes c.as_slice-bytes.ensures.value taken c.fault_of_rest.ensures

pub returns-in-Ok-Refused : goal.returns-in-Ok-Refused
returns-in-Ok-Refused c =
    let bytes = c.as_slice-bytes.result.now in
    let untaken = subst (IsJudgement c.args.profile bytes) c.in-Ok-Refused.field-0-is c.in-Ok-Refused.ensures in
    (refl, subst (λ bs. IsUntaken c.args.profile bs c.in-Ok-Refused.why) c.as_slice-bytes.ensures.value untaken)
