use Rattle.omf_finding.proofs.ClosedLaws.{pushed-more}
use Rattle.omf_finding.proofs.closed.push_interval.Goals as goal

pub loop-at-preserved : goal.loop-at-preserved
loop-at-preserved c =
    pushed-more c.args.interval c.loop-at.at c.args.closed.now.items c.loop-at.closed.items c.push_closed.new.closed.items c.closed_at.result c.loop-at.invariant c.closed_at.ensures c.in_ok-push_closed.ensures
