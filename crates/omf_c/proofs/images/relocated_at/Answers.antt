use Rattle.std.proofs.Common.{subst}
use Rattle.omf_check.specs.Module.{records_in}
use Rattle.omf_reloc.specs.Headline.{IsAnswerAt}
use Rattle.omf_c.proofs.PlacedLaws.{relocated_is}
use Rattle.omf_c.proofs.images.relocated_at.Goals as goal

pub returns-in-Ok-Relocated : goal.returns-in-Ok-Relocated
returns-in-Ok-Relocated c =
    let records = records_in c.args.checked.now.bytes in
    let i = c.in-Ok-Relocated in
    let is = subst (IsAnswerAt c.args.placement.now records) i.field-0-is i.ensures.answer in
    (is.reaches, relocated_is records c.args.placement.now i.image c.segments.result i.start is c.segments.ensures.count)
