use Rattle.std.proofs.Common.{◌+◌, ◌∙◌, ap, sym, slice_index_or}
use Rattle.std.specs.Prelude.{None}
use Rattle.std.proofs.lemmas.Bool.{true≢false}
use Rattle.omf_check.specs.Module.{records_in}
use Rattle.omf_check.specs.WellFormed.{recs}
use Rattle.omf_placement.proofs.ResolvingLaws.{from_place, not_refused, one_found, one_sound, not_found}
use Rattle.omf_placement.proofs.text.group_frames.Goals as goal
use Rattle.omf_placement.proofs.text.group_frames.Goals.{then-not-is_short, else-not-is_short}

pub loop-i-preserved : goal.loop-i-preserved
loop-i-preserved c =
    let m = recs (records_in c.args.«module».now.bytes) in
    let line = (slice_index_or c.args.groups.now c.loop-i.i (0, None)).0 in
    let next = from_place c.args.groups.now c.loop-i.i c.loop-i-test.true in
    record {
      found = elim c.if-not-is_short.branch [
        | then-not-is_short w ↦ λ e.
            one_found m c.args.segments.now (c.loop-i.i + 1) _ _ _ c.in-Some.frame c.loop-i.frames.items _ _ next (sym (c.group_frame.ensures line) ∙ c.in-Some.is)
            (ap (λ v. v.items) w.frames-is ∙ w.push.ensures.items ∙ not_refused w.push.result _ _ (sym w.is_err-is_short.ensures.value ∙ sym w.is_short-is ∙ e)) (c.loop-i.invariant.found w.if-not-is_short.true)
        | else-not-is_short w ↦ λ e. absurd (true≢false (sym w.if-not-is_short.false ∙ sym w.is_short-is ∙ e))
      ];
      sound = one_sound m c.args.segments.now (c.loop-i.i + 1) _ _ _ c.in-Some.frame _ next (sym (c.group_frame.ensures line) ∙ c.in-Some.is) c.loop-i.invariant.sound;
    }

pub returns-in_default : goal.returns-in_default
returns-in_default c =
    let m = recs (records_in c.args.«module».now.bytes) in
    let line = (slice_index_or c.args.groups.now c.loop-i.i (0, None)).0 in
    not_found m c.args.segments.now (c.loop-i.i + 1) _ _ _ c.args.groups.now (from_place c.args.groups.now c.loop-i.i c.loop-i-test.true) (sym (c.group_frame.ensures line) ∙ c.in_default.is) c.loop-i.invariant.sound
