use Rattle.std.proofs.Common.{subst, ◌≤◌, ℕ}
use Rattle.std.specs.Prelude.{All, List}
use Rattle.std.proofs.lemmas.List.{take_all}
use Rattle.omf_linking.specs.Space.Segments.{SegmentAt, IsWithin, segment_at}
use Rattle.omf_linking.specs.Inner.Searching.{listed}
use Rattle.omf_linking.proofs.SpaceLaws.SearchLaws.{within_more, beyond_next}
use Rattle.omf_linking.proofs.search.first_beyond.Goals as goal

pub returns-then-is_beyond : goal.returns-then-is_beyond
returns-then-is_beyond c = beyond_next (listed c.args.segments.now) c.loop-n.n (segment_at c.segment-segment.result) c.segment-segment.ensures c.loop-n.invariant (c.is_beyond.ensures.beyond c.if-is_beyond.true)

pub loop-n-preserved : goal.loop-n-preserved
loop-n-preserved c = within_more (listed c.args.segments.now) c.loop-n.n (segment_at c.segment-segment.result) c.segment-segment.ensures c.loop-n.invariant (c.is_beyond.ensures.within c.if-is_beyond.false)

pub returns : goal.returns
returns c =
    let all = listed c.args.segments.now in
    let past = subst (λ (n : ℕ). n ≤ c.loop-n.n) c.count-n-end.ensures c.loop-n-test.false in
    subst (λ (xs : List SegmentAt). All IsWithin xs) (take_all c.loop-n.n all past) c.loop-n.invariant
