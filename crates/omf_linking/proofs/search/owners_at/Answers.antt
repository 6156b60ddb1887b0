use Rattle.std.proofs.Common.{◌∙◌, sym}
use Rattle.omf_linking.specs.Space.Memory.{overlap}
use Rattle.omf_linking.specs.Space.Segments.{segment_at, segment_shares}
use Rattle.omf_linking.specs.Inner.Searching.{listed}
use Rattle.omf_linking.proofs.SpaceLaws.SearchLaws.{passed_over, known_next, found_next}
use Rattle.omf_linking.proofs.search.owners_at.Goals as goal

pub loop-n-preserved-then-not-has : goal.loop-n-preserved-then-not-has
loop-n-preserved-then-not-has c =
    let all = listed c.args.segments.now in
    passed_over all c.args.address c.loop-n.n (segment_at c.segment-segment.result) c.segment-segment.ensures c.loop-n.first (overlap (segment_shares all c.args.address)) c.loop-n.invariant (sym c.has.ensures ∙ c.if-not-has.true)

pub returns-in-Some : goal.returns-in-Some
returns-in-Some c =
    let all = listed c.args.segments.now in
    found_next all c.args.address c.loop-n.n (segment_at c.segment-segment.result) c.segment-segment.ensures c.loop-n.first (overlap (segment_shares all c.args.address)) c.loop-n.invariant c.in-Some.both
    (sym c.has.ensures ∙ c.if-not-has.false) (sym c.excluded.ensures ∙ c.in-Some.is)

pub loop-n-preserved : goal.loop-n-preserved
loop-n-preserved c =
    let all = listed c.args.segments.now in
    known_next all c.args.address c.loop-n.n (segment_at c.segment-segment.result) c.segment-segment.ensures c.loop-n.first (overlap (segment_shares all c.args.address)) c.loop-n.invariant c.or-first.result
    (sym c.has.ensures ∙ c.if-not-has.false) (sym c.excluded.ensures ∙ c.in_default.is) c.or-first.ensures
