use Rattle.std.proofs.Common.{take, sym, subst}
use Rattle.omf_finding.proofs.CandidateLaws.{AreFor, for-all, for-first, for-next, pattern-marked}
use Rattle.omf_finding.proofs.finding.shape_candidates.Goals as goal

pub loop-shape-init : goal.loop-shape-init
loop-shape-init c =
    let program = c.args.ended.program.now in
    let most = c.args.ended.most in
    let m = c.args.module.now in
    subst (AreFor program most m (take 0 c.args.shapes.now)) (sym c.new-candidates.ensures.items) (for-first program most m c.args.shapes.now)

pub candidate-requires : goal.candidate-requires
candidate-requires c = pattern-marked c.args.module.now c.args.pattern.now c.requires.pattern

pub loop-shape-preserved : goal.loop-shape-preserved
loop-shape-preserved c =
    let program = c.args.ended.program.now in
    let most = c.args.ended.most in
    let m = c.args.module.now in
    let i = c.loop-shape.shape-index in
    for-next program most m c.args.shapes.now i c.shape-item.result c.shape-item.is c.loop-shape-test.true c.loop-shape.candidates.items c.push_candidate.new.candidates.items c.in_ok-candidate.field-0
    (c.in_ok-candidate.ensures m c.requires.pattern c.requires.shapes (c.requires.shapes.each c.shape-item.result (i, c.loop-shape-test.true, sym c.shape-item.is))) c.in_ok-push_candidate.ensures c.loop-shape.invariant

pub returns : goal.returns
returns c =
    for-all c.args.ended.program.now c.args.ended.most c.args.module.now c.segment_count-count.ensures.holds c.args.shapes.now c.loop-shape.shape-index c.loop-shape-test.false c.requires.shapes c.loop-shape.candidates.items c.loop-shape.invariant
