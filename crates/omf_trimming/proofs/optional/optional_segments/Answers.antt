use Rattle.std.proofs.Common.{◌≡◌, ◌+◌, arith, rules}
use Rattle.std.specs.Prelude.{Some}
use Rattle.omf_check.specs.Module.{records_in}
use Rattle.omf_check.specs.Tables.{entry, names, segments}
use Rattle.omf_check.specs.WellFormed.{recs}
use Rattle.omf_trimming.specs.Reaching.{optional_segment}
use Rattle.omf_placement.proofs.StepLaws.{next_entry}
use Rattle.omf_trimming.proofs.SegmentLaws.{all_taken, one_more}
use Rattle.omf_trimming.proofs.optional.optional_segments.Goals as goal

pub loop-before-preserved : goal.loop-before-preserved
loop-before-preserved c =
    let m = recs (records_in c.args.«module».now.bytes) in
    let told : entry (segments m) (c.loop-before.before + 1) ≡ Some c.in-Some.segment = search rules in
    one_more (optional_segment c.args.left_out (names m)) (segments m) c.loop-before.before _ _ c.in-Some.segment _
    (next_entry (segments m) c.loop-before.before c.in-Some.segment told) c.in_ok-push_optional.ensures c.loop-before.invariant

pub returns : goal.returns
returns c =
    let m = recs (records_in c.args.«module».now.bytes) in
    all_taken (optional_segment c.args.left_out (names m)) (segments m) c.loop-before.before _ _ (omega (arith, c.loop-before-test.false, c.segments-before-end.ensures.count)) c.loop-before.invariant
