use Rattle.std.proofs.Common.{sym, subst, List, length}
use Rattle.omf_check.specs.Module.{records_in}
use Rattle.omf_check.specs.WellFormed.{recs}
use Rattle.omf_placement.specs.declared.frame.Placed.{Placed}
use Rattle.omf_finding.specs.Inner.Agreeing.{FirstAgree}
use Rattle.omf_finding.proofs.IsFoundLaws.{agree-found, found-agree}
use Rattle.omf_finding.proofs.found.is_found.Goals as goal

pub returns-in-Ok-clause-found : goal.returns-in-Ok-clause-found
returns-in-Ok-clause-found c =
    let pl = c.args.placement.now in
    let m = recs (records_in c.args.module.now.bytes) in
    λ e. agree-found pl m c.segment_count-count.ensures.holds c.args.absent.now c.args.program.now c.args.base c.in-Ok.ensures.reaches c.in-Ok.image c.in-Ok.ensures.bytes
    (subst (λ (ps : List Placed). FirstAgree c.in-Ok.image ps c.args.absent.now c.args.program.now c.args.base (length ps)) c.segments.ensures (c.image_agrees.ensures.found e))

pub returns-in-Ok-clause-wrong : goal.returns-in-Ok-clause-wrong
returns-in-Ok-clause-wrong c =
    let pl = c.args.placement.now in
    let m = recs (records_in c.args.module.now.bytes) in
    λ e h. c.image_agrees.ensures.wrong e (subst (λ (ps : List Placed). FirstAgree c.in-Ok.image ps c.args.absent.now c.args.program.now c.args.base (length ps)) (sym c.segments.ensures)
    (found-agree pl m c.segment_count-count.ensures.holds c.args.absent.now c.args.program.now c.args.base c.in-Ok.ensures.reaches c.in-Ok.image c.in-Ok.ensures.bytes h))
