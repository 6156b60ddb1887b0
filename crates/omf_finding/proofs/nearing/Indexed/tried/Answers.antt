use Rattle.std.proofs.lemmas.List.{get_or_default}
use Rattle.omf_finding.proofs.ShownLaws.{shown-last, shown-next}
use Rattle.omf_finding.proofs.nearing.Indexed.tried.Goals as goal

pub loop-interval-preserved : goal.loop-interval-preserved
loop-interval-preserved c =
    let program = c.args.self.now.program.now in
    let is = c.args.intervals.now in
    let n = c.loop-interval.interval-index in
    let low = c.loop-interval-test.true in
    shown-next program.bytes.items program.base is n _ (get_or_default is n _ _ low) low c.loop-interval.addresses.items c.push_interval.new.addresses.items c.loop-interval.invariant c.in_ok-push_interval.ensures

pub returns : goal.returns
returns c =
    let program = c.args.self.now.program.now in
    λ a x. c.each_once.ensures a (shown-last program.bytes.items program.base c.args.intervals.now c.loop-interval.interval-index c.loop-interval-test.false c.loop-interval.addresses.items c.loop-interval.invariant a x)
