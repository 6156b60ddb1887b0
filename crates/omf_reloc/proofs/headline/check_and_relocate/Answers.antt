use Rattle.std.proofs.Common.{subst}
use Rattle.omf_check.specs.Module.{records_in}
use Rattle.omf_reloc.specs.Headline.{IsAnswerAt}
use Rattle.omf_reloc.proofs.HeadlineLaws.{begins, refuses_so, does_not_reach, relocates}
use Rattle.omf_reloc.proofs.headline.check_and_relocate.Goals as goal

pub returns-in-Err-Refused-clause-headline : goal.returns-in-Err-Refused-clause-headline
returns-in-Err-Refused-clause-headline g c =
    λ input e. rw c.in-Err-Refused.field-0-is (
    refuses_so c.args.profile input c.args.placement.now c.in-Err-Refused.field-0 c.in-Err-Refused.reason c.in-Err-Refused.place c.in-Err-Refused.field-0-is (c.in-Err-Refused.ensures.verdict input e))

pub returns-in-Ok-DoesNotReach-clause-headline : goal.returns-in-Ok-DoesNotReach-clause-headline
returns-in-Ok-DoesNotReach-clause-headline g c =
    λ input e. does_not_reach c.args.profile input c.args.placement.now (records_in c.in-Ok.module.bytes)
    (begins c.args.profile input c.in-Ok.module (c.in-Ok.ensures.verdict input e)) c.in-Ok-DoesNotReach.fault
    (subst (IsAnswerAt c.args.placement.now (records_in c.in-Ok.module.bytes)) c.in-Ok-DoesNotReach.field-0-is c.in-Ok-DoesNotReach.ensures.answer)

pub returns-in-Ok-Relocated-clause-headline : goal.returns-in-Ok-Relocated-clause-headline
returns-in-Ok-Relocated-clause-headline g c =
    λ input e. relocates c.args.profile input c.args.placement.now (records_in c.in-Ok.module.bytes)
    (begins c.args.profile input c.in-Ok.module (c.in-Ok.ensures.verdict input e)) c.in-Ok-Relocated.image c.in-Ok-Relocated.start
    (subst (IsAnswerAt c.args.placement.now (records_in c.in-Ok.module.bytes)) c.in-Ok-Relocated.field-0-is c.in-Ok-Relocated.ensures.answer)
