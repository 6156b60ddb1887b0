use Rattle.std.proofs.Common.{◌+◌, ◌≤◌, ℕ, sym, subst, take}
use Rattle.omf_linking.specs.Space.Segments.{segment_at}
use Rattle.omf_linking.specs.Inner.Searching.{listed}
use Rattle.omf_linking.proofs.SpaceLaws.SearchLaws.{IsLowestIn, next_in, first_in_all, within_at}
use Rattle.omf_linking.proofs.search.first_overlap.Goals as goal

pub overlap_in-requires-clause-within : goal.overlap_in-requires-clause-within
overlap_in-requires-clause-within c = within_at (listed c.args.segments.now) c.loop-n.n (segment_at c.segment-segment.result) c.segment-segment.ensures c.requires.within

pub loop-n-preserved : goal.loop-n-preserved
loop-n-preserved c =
    let all = listed c.args.segments.now in
    subst (IsLowestIn all (take (c.loop-n.n + 1) all)) (sym c.lesser-lowest.ensures)
    (next_in all c.loop-n.n (segment_at c.segment-segment.result) c.loop-n.lowest c.overlap_in.result c.segment-segment.ensures c.loop-n.invariant c.overlap_in.ensures)

pub returns : goal.returns
returns c =
    let all = listed c.args.segments.now in
    first_in_all all c.loop-n.n c.loop-n.lowest (subst (λ (n : ℕ). n ≤ c.loop-n.n) c.count-n-end.ensures c.loop-n-test.false) c.loop-n.invariant
