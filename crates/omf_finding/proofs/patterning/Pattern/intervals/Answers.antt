use Rattle.std.proofs.Common.{arith, subst, sym}
use Rattle.omf_image.proofs.ShownLaws.{number_low, number_fits}
use Rattle.omf_finding.proofs.IntervalLaws.{AreFirst, intervals-first, intervals-next, intervals-last}
use Rattle.omf_finding.proofs.patterning.Pattern.intervals.Goals as goal

pub loop-interval-init : goal.loop-interval-init
loop-interval-init c = subst (AreFirst c.args.self.now c.args.segment 0) (sym c.new-intervals.ensures.items) (intervals-first c.args.self.now c.args.segment)

pub overflow_add-k : goal.overflow_add-k
overflow_add-k c =
    let i = c.in-Some.interval in
    let low = number_fits c.args.self.now.values c.args.segment c.loop-interval.k i.first i.values.now c.in-Some.ensures.0 in
    omega (arith, low)

pub loop-interval-smaller : goal.loop-interval-smaller
loop-interval-smaller c =
    let i = c.in-Some.interval in
    let low = number_low c.args.self.now.values c.args.segment c.loop-interval.k i.first i.values.now c.in-Some.ensures.0 in
    omega (arith, low)

pub loop-interval-preserved : goal.loop-interval-preserved
loop-interval-preserved c =
    intervals-next c.args.self.now c.args.segment c.loop-interval.k c.loop-interval.intervals.items c.push.new.self.items c.in-Some.interval c.in-Some.ensures.0 c.in-Some.ensures.1
    c.in_ok-push.ensures.items c.loop-interval.invariant

pub returns : goal.returns
returns c = intervals-last c.args.self.now c.args.segment c.loop-interval.k c.loop-interval.intervals.items c.in_default.ensures c.loop-interval.invariant
