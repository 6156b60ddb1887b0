use Rattle.std.proofs.Common.{◌≡◌, Err, arith, drop, rules, subst, sym}
use Rattle.omf_image.specs.Inner.Joined.{runs_of}
use Rattle.omf_linking.specs.Inner.Runs.{IsAdded}
use Rattle.omf_linking.specs.Space.Segments.{segment_at}
use Rattle.omf_linking.proofs.SpaceLaws.CoverLaws.{runs_are_all}
use Rattle.omf_image.proofs.ShownLaws.{number_low, number_fits, some_bytes, run_next, none_left}
use Rattle.omf_linking.proofs.SpaceLaws.RunSteps.{no_runs_yet, one_run, all_within, all_more, told_beyond}
use Rattle.omf_linking.proofs.space.runs.add_runs.Goals as goal

pub loop-first-init : goal.loop-first-init
loop-first-init c =
    let s = c.args.segment.now in
    let image = s.image.now in
    record {
      within = omega arith;
      lies = c.requires;
      added = no_runs_yet c.args.stretches.now.items (segment_at s) (runs_of image s.owner.segment) (runs_are_all image s.owner.segment);
    }

pub stretch_at-requires : goal.stretch_at-requires
stretch_at-requires c =
    let s = c.args.segment.now in
    some_bytes s.image.now s.owner.segment c.loop-first.k c.in-Some.first c.in-Some.bytes.now c.in-Some.ensures

pub returns-in_err-stretch_at-clause-within : goal.returns-in_err-stretch_at-clause-within
returns-in_err-stretch_at-clause-within c =
    let s = c.args.segment.now in
    let f = c.in_err-stretch_at.field-0.0 in
    let some = some_bytes s.image.now s.owner.segment c.loop-first.k c.in-Some.first c.in-Some.bytes.now c.in-Some.ensures in
    let same : c.from_residual.result ≡ Err f = search rules in
    subst (IsAdded (segment_at s)) (sym same) (told_beyond (segment_at s) c.in-Some.first c.in-Some.bytes.now f c.in-Some.ensures.1 some c.in_err-stretch_at.ensures)

pub overflow_add-k : goal.overflow_add-k
overflow_add-k c =
    let s = c.args.segment.now in
    let low = number_fits s.image.now s.owner.segment c.loop-first.k c.in-Some.first c.in-Some.bytes.now c.in-Some.ensures in
    omega (arith, low)

pub loop-first-smaller : goal.loop-first-smaller
loop-first-smaller c =
    let s = c.args.segment.now in
    let low = number_low s.image.now s.owner.segment c.loop-first.k c.in-Some.first c.in-Some.bytes.now c.in-Some.ensures in
    omega (arith, low)

pub loop-first-preserved : goal.loop-first-preserved
loop-first-preserved c =
    let s = c.args.segment.now in
    let image = s.image.now in
    let runs = runs_of image s.owner.segment in
    let k = c.loop-first.k in
    let low = number_low image s.owner.segment k c.in-Some.first c.in-Some.bytes.now c.in-Some.ensures in
    let next = run_next image s.owner.segment k c.in-Some.first c.in-Some.bytes.now c.in-Some.ensures in
    record {
      within = omega (arith, low);
      lies = search rules;
      added = one_run c.args.stretches.now.items c.loop-first.stretches.items c.push.new.self.items (segment_at s) (drop k runs) _ c.in-Some.first c.in-Some.bytes.now c.in_ok-stretch_at.field-0
          next c.in-Some.ensures.1 c.in_ok-push.ensures.items c.in_ok-stretch_at.ensures c.loop-first.invariant.added;
    }

pub returns-clause-shares : goal.returns-clause-shares
returns-clause-shares c =
    let s = c.args.segment.now in
    let runs = runs_of s.image.now s.owner.segment in
    all_more c.args.stretches.now.items c.loop-first.stretches.items (segment_at s) (drop c.loop-first.k runs) (none_left s.image.now s.owner.segment c.loop-first.k c.in_default.ensures) c.loop-first.invariant.added

pub returns-clause-within : goal.returns-clause-within
returns-clause-within c =
    let s = c.args.segment.now in
    let runs = runs_of s.image.now s.owner.segment in
    all_within c.args.stretches.now.items c.loop-first.stretches.items (segment_at s) (drop c.loop-first.k runs) (none_left s.image.now s.owner.segment c.loop-first.k c.in_default.ensures) c.loop-first.invariant.added
