use Rattle.std.proofs.Common.{subst, sym, List, length}
use Rattle.omf_check.specs.Module.{records_in}
use Rattle.omf_check.specs.WellFormed.{recs}
use Rattle.omf_placement.specs.declared.frame.Placed.{Placed}
use Rattle.omf_finding.specs.Inner.Agreeing.{ComparedBelow, FirstAgree}
use Rattle.omf_finding.proofs.IsFoundLaws.{agree-found, found-agree, part-compared}
use Rattle.omf_finding.proofs.CompareLaws.{in-part}
use Rattle.omf_finding.proofs.found.is_found_in_part.Goals as goal

pub returns-in-Ok-clause-found : goal.returns-in-Ok-clause-found
returns-in-Ok-clause-found c =
    let pl = c.args.placement.now in
    let m = recs (records_in c.args.module.now.bytes) in
    λ e. in-part pl m c.args.absent.now c.args.program.now c.args.base c.in-Ok.image c.in-Ok.ensures.bytes (c.part_agrees.ensures.compared e)
    (agree-found pl m c.segment_count-count.ensures.holds c.args.absent.now c.args.program.now c.args.base c.in-Ok.ensures.reaches c.in-Ok.image c.in-Ok.ensures.bytes
    (subst (λ (ps : List Placed). FirstAgree c.in-Ok.image ps c.args.absent.now c.args.program.now c.args.base (length ps)) c.segments.ensures (c.part_agrees.ensures.agrees e)))

pub returns-in-Ok-clause-wrong : goal.returns-in-Ok-clause-wrong
returns-in-Ok-clause-wrong c =
    let pl = c.args.placement.now in
    let m = recs (records_in c.args.module.now.bytes) in
    let absent = c.args.absent.now in
    let program = c.args.program.now in
    let holds = c.segment_count-count.ensures.holds in
    λ e h. c.part_agrees.ensures.wrong e
    (subst (λ (ps : List Placed). FirstAgree c.in-Ok.image ps absent program c.args.base (length ps)) (sym c.segments.ensures)
    (found-agree pl m holds absent program c.args.base c.in-Ok.ensures.reaches c.in-Ok.image c.in-Ok.ensures.bytes h.found))
    (subst (λ (ps : List Placed). ComparedBelow c.in-Ok.image absent (length ps)) (sym c.segments.ensures)
    (part-compared pl m holds absent program c.args.base c.in-Ok.ensures.reaches c.in-Ok.image c.in-Ok.ensures.bytes h))
