use Rattle.std.proofs.Common.{Ok, Err, ◌∙◌}
use Rattle.omf_records.proofs.Publics.{publics_read}
use Rattle.omf_records.proofs.viewing.publics_at.Goals as goal

pub returns-in-Ok-clause-contents : goal.returns-in-Ok-clause-contents
returns-in-Ok-clause-contents c =
    publics_read c.args.here.wide c.in_ok-frame.here.wide
    c.args.here.within c.in_ok-group.here.within c.in_ok-segment.here.within c.in_ok-frame.here.within
    c.args.here.bytes.now c.in_ok-group.here.bytes.now c.in_ok-segment.here.bytes.now c.in_ok-frame.here.bytes.now
    c.in_ok-group.group c.in_ok-segment.segment c.in_ok-frame.frame (Ok c.in-Ok.publics)
    c.in_ok-group.ensures.0 c.in_ok-segment.ensures.0 c.in_ok-frame.ensures.0 (c.in_ok-frame.ensures.1 ∙ c.in_ok-segment.ensures.1 ∙ c.in_ok-group.ensures.1) c.in-Ok.ensures

pub returns-in-Ok-2-clause-contents : goal.returns-in-Ok-2-clause-contents
returns-in-Ok-2-clause-contents c =
    publics_read c.args.here.wide c.in_ok-frame.here.wide
    c.args.here.within c.in_ok-group.here.within c.in_ok-segment.here.within c.in_ok-frame.here.within
    c.args.here.bytes.now c.in_ok-group.here.bytes.now c.in_ok-segment.here.bytes.now c.in_ok-frame.here.bytes.now
    c.in_ok-group.group c.in_ok-segment.segment c.in_ok-frame.frame (Ok c.in-Ok.publics)
    c.in_ok-group.ensures.0 c.in_ok-segment.ensures.0 c.in_ok-frame.ensures.0 (c.in_ok-frame.ensures.1 ∙ c.in_ok-segment.ensures.1 ∙ c.in_ok-group.ensures.1) c.in-Ok.ensures

pub returns-in-Err-clause-contents : goal.returns-in-Err-clause-contents
returns-in-Err-clause-contents c =
    publics_read c.args.here.wide c.in_ok-frame.here.wide
    c.args.here.within c.in_ok-group.here.within c.in_ok-segment.here.within c.in_ok-frame.here.within
    c.args.here.bytes.now c.in_ok-group.here.bytes.now c.in_ok-segment.here.bytes.now c.in_ok-frame.here.bytes.now
    c.in_ok-group.group c.in_ok-segment.segment c.in_ok-frame.frame (Err c.in-Err.fault)
    c.in_ok-group.ensures.0 c.in_ok-segment.ensures.0 c.in_ok-frame.ensures.0 (c.in_ok-frame.ensures.1 ∙ c.in_ok-segment.ensures.1 ∙ c.in_ok-group.ensures.1) c.in-Err.ensures
