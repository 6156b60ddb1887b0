use Rattle.std.proofs.Common.{◌≡◌, Err, List, ap, subst, sym, rules, ◌∙◌}
use Rattle.std.specs.Prelude.{All}
use Rattle.omf_records.specs.Inner.Seen.{map_ok}
use Rattle.omf_linking.specs.Inner.Runs.{AreStretches}
use Rattle.omf_linking.specs.Space.Segments.{SegmentAt, IsWithin, segments_at, segment_shares}
use Rattle.omf_linking.proofs.SpaceLaws.SegmentLaws.{within_next, shares_next, told_first, all_taken}
use Rattle.omf_linking.proofs.space.runs.stretches_of.Goals as goal

pub returns-in_err-add_runs-clause-stretches : goal.returns-in_err-add_runs-clause-stretches
returns-in_err-add_runs-clause-stretches c =
    let ss = c.args.segments.now in
    let f = c.in_err-add_runs.field-0.0 in
    let same : c.from_residual.result ≡ Err f = search rules in
    subst (λ r. AreStretches (segments_at ss) (map_ok (λ v. v.items) r)) (sym same)
    (told_first ss c.loop-segment.segment-index c.segment-item.result c.segment-item.is c.loop-segment-test.true f c.loop-segment.invariant.within c.in_err-add_runs.ensures.within)

pub loop-segment-preserved : goal.loop-segment-preserved
loop-segment-preserved c =
    let ss = c.args.segments.now in
    let i = c.loop-segment.segment-index in
    record {
      lies = c.in_ok-add_runs.ensures.lies;
      within = within_next ss i c.segment-item.result c.segment-item.is c.loop-segment-test.true c.loop-segment.invariant.within c.in_ok-add_runs.ensures.within;
      added = shares_next ss i c.segment-item.result c.segment-item.is c.loop-segment-test.true c.loop-segment.stretches.items c.add_runs.new.stretches.items c.loop-segment.invariant.added c.in_ok-add_runs.ensures.shares;
    }

pub returns-clause-stretches : goal.returns-clause-stretches
returns-clause-stretches c =
    let ss = c.args.segments.now in
    let whole = all_taken ss c.loop-segment.segment-index c.loop-segment-test.false in (
      subst (λ (xs : List SegmentAt). All IsWithin xs) whole c.loop-segment.invariant.within,
      λ a. c.loop-segment.invariant.added a ∙ ap (λ (xs : List SegmentAt). segment_shares xs a) whole,
    )
