use Rattle.std.proofs.Common.{arith, ap, drop, sym, ◌∙◌}
use Rattle.std.specs.Prelude.{is_err, is_some}
use Rattle.omf_image.specs.Inner.Joined.{runs_of}
use Rattle.omf_linking.specs.Space.Segments.{segment_at, segment_shares}
use Rattle.omf_linking.specs.Inner.Searching.{listed}
use Rattle.omf_linking.proofs.SpaceLaws.CoverLaws.{runs_are_all}
use Rattle.omf_image.proofs.ShownLaws.{number_low, number_fits, some_bytes, run_next, none_left}
use Rattle.omf_linking.proofs.SpaceLaws.SearchLaws.{none_begun, run_begun, run_lowest, none_lowest, not_beyond, err_beyond}
use Rattle.omf_linking.proofs.SpaceLaws.LowestLaws.{is_none}
use Rattle.omf_linking.proofs.search.overlap_in.Goals as goal

pub loop-first-init : goal.loop-first-init
loop-first-init c =
    let s = c.args.segment.now in
    record { within = omega arith; begun = none_begun (segment_shares (listed c.args.segments.now)) (segment_at s) (runs_of s.image.now s.owner.segment) (runs_are_all s.image.now s.owner.segment) }

pub stretch_at-requires : goal.stretch_at-requires
stretch_at-requires c =
    let s = c.args.segment.now in
    some_bytes s.image.now s.owner.segment c.loop-first.k c.in-Some.first c.in-Some.bytes.now c.in-Some.ensures

pub unreachable-requires : goal.unreachable-requires
unreachable-requires c =
    let s = c.args.segment.now in
    let some = some_bytes s.image.now s.owner.segment c.loop-first.k c.in-Some.first c.in-Some.bytes.now c.in-Some.ensures in
    not_beyond (segment_at s) c.requires.within (err_beyond (segment_at s) c.in-Some.first c.in-Some.bytes.now c.stretch_at.result (ap is_err c.in_default-stretch_at.is) c.stretch_at.ensures c.in-Some.ensures.1 some)

pub returns-then-is_some : goal.returns-then-is_some
returns-then-is_some c =
    let s = c.args.segment.now in
    let at = segment_shares (listed c.args.segments.now) in
    let runs = runs_of s.image.now s.owner.segment in
    let k = c.loop-first.k in
    let next = run_next s.image.now s.owner.segment k c.in-Some.first c.in-Some.bytes.now c.in-Some.ensures in
    let here = c.is_some.ensures ∙ ap is_some c.owners_at.ensures in
    run_lowest at (segment_at s) c.in-Some.first c.in-Some.bytes.now (drop k runs) _ next c.in-Some.ensures.1 c.loop-first.invariant.begun c.in-Ok.stretch c.in-Ok.ensures.0 (sym here ∙ c.if-is_some.true)

pub overflow_add-k : goal.overflow_add-k
overflow_add-k c =
    let s = c.args.segment.now in
    let low = number_fits s.image.now s.owner.segment c.loop-first.k c.in-Some.first c.in-Some.bytes.now c.in-Some.ensures in
    omega (arith, low)

pub loop-first-smaller : goal.loop-first-smaller
loop-first-smaller c =
    let s = c.args.segment.now in
    let low = number_low s.image.now s.owner.segment c.loop-first.k c.in-Some.first c.in-Some.bytes.now c.in-Some.ensures in
    omega (arith, low)

pub loop-first-preserved : goal.loop-first-preserved
loop-first-preserved c =
    let s = c.args.segment.now in
    let at = segment_shares (listed c.args.segments.now) in
    let runs = runs_of s.image.now s.owner.segment in
    let k = c.loop-first.k in
    let low = number_low s.image.now s.owner.segment k c.in-Some.first c.in-Some.bytes.now c.in-Some.ensures in
    let next = run_next s.image.now s.owner.segment k c.in-Some.first c.in-Some.bytes.now c.in-Some.ensures in
    let here = c.is_some.ensures ∙ ap is_some c.owners_at.ensures in
    record {
      within = omega (arith, low);
      begun = run_begun at (segment_at s) c.in-Some.first c.in-Some.bytes.now (drop k runs) _ next c.in-Some.ensures.1 c.loop-first.invariant.begun c.in-Ok.stretch c.in-Ok.ensures.0 (is_none _ (sym here ∙ c.if-is_some.false));
    }

pub returns : goal.returns
returns c =
    let s = c.args.segment.now in
    let runs = runs_of s.image.now s.owner.segment in
    none_lowest (segment_shares (listed c.args.segments.now)) (segment_at s) (drop c.loop-first.k runs) (none_left s.image.now s.owner.segment c.loop-first.k c.in_default.ensures) c.loop-first.invariant.begun
