use Rattle.std.proofs.Common.{[], arith, drop, sym, ◌∙◌}
use Rattle.omf_image.specs.Inner.Joined.{runs_of}
use Rattle.omf_linking.specs.Space.Segments.{segment_at}
use Rattle.omf_linking.proofs.SpaceLaws.CoverLaws.{runs_are_all}
use Rattle.omf_image.proofs.ShownLaws.{number_low, number_fits, some_bytes, run_next, none_left}
use Rattle.omf_linking.proofs.SpaceLaws.RunSteps.{no_runs_yet, all_within}
use Rattle.omf_linking.proofs.SpaceLaws.SearchLaws.{err_beyond, one_within}
use Rattle.omf_linking.proofs.search.is_beyond.Goals as goal

pub loop-first-init : goal.loop-first-init
loop-first-init c =
    let s = c.args.segment.now in
    record { within = omega arith; so_far = ([], no_runs_yet [] (segment_at s) (runs_of s.image.now s.owner.segment) (runs_are_all s.image.now s.owner.segment)) }

pub stretch_at-requires : goal.stretch_at-requires
stretch_at-requires c =
    let s = c.args.segment.now in
    some_bytes s.image.now s.owner.segment c.loop-first.k c.in-Some.first c.in-Some.bytes.now c.in-Some.ensures

pub returns-then-is_err-clause-beyond : goal.returns-then-is_err-clause-beyond
returns-then-is_err-clause-beyond c =
    let s = c.args.segment.now in
    let some = some_bytes s.image.now s.owner.segment c.loop-first.k c.in-Some.first c.in-Some.bytes.now c.in-Some.ensures in
    λ _. err_beyond (segment_at s) c.in-Some.first c.in-Some.bytes.now c.stretch_at.result (sym c.is_err.ensures.value ∙ c.if-is_err.true) c.stretch_at.ensures c.in-Some.ensures.1 some

pub overflow_add-k : goal.overflow_add-k
overflow_add-k c =
    let s = c.args.segment.now in
    let low = number_fits s.image.now s.owner.segment c.loop-first.k c.in-Some.first c.in-Some.bytes.now c.in-Some.ensures in
    omega (arith, low)

pub loop-first-smaller : goal.loop-first-smaller
loop-first-smaller c =
    let s = c.args.segment.now in
    let low = number_low s.image.now s.owner.segment c.loop-first.k c.in-Some.first c.in-Some.bytes.now c.in-Some.ensures in
    omega (arith, low)

pub loop-first-preserved : goal.loop-first-preserved
loop-first-preserved c =
    let s = c.args.segment.now in
    let runs = runs_of s.image.now s.owner.segment in
    let k = c.loop-first.k in
    let low = number_low s.image.now s.owner.segment k c.in-Some.first c.in-Some.bytes.now c.in-Some.ensures in
    let next = run_next s.image.now s.owner.segment k c.in-Some.first c.in-Some.bytes.now c.in-Some.ensures in
    record {
      within = omega (arith, low);
      so_far = one_within (segment_at s) (drop k runs) _ c.in-Some.first c.in-Some.bytes.now c.stretch_at.result next c.in-Some.ensures.1 (sym c.is_err.ensures.value ∙ c.if-is_err.false) c.stretch_at.ensures c.loop-first.invariant.so_far;
    }

pub returns-clause-within : goal.returns-clause-within
returns-clause-within c =
    let s = c.args.segment.now in
    let runs = runs_of s.image.now s.owner.segment in
    λ _. all_within [] c.loop-first.invariant.so_far.0 (segment_at s) (drop c.loop-first.k runs) (none_left s.image.now s.owner.segment c.loop-first.k c.in_default.ensures) c.loop-first.invariant.so_far.1
