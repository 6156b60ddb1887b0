use Rattle.std.proofs.Common.{◌∙◌, ◌+◌, ap, sym, drop}
use Rattle.omf_layout.proofs.OwnLaws.{far-more, far-same, next-item}
use Rattle.omf_layout.proofs.own.communals.put_far_segments.Goals.{then-communal+in_ok-put_far_segment, else-communal}
use Rattle.omf_layout.proofs.own.communals.put_far_segments.Goals as goal

pub loop-communal-preserved : goal.loop-communal-preserved
loop-communal-preserved c =
    let s = c.communal-item.result in
    let next = next-item c.args.communals.now c.loop-communal.communal-index s c.communal-item.is c.loop-communal-test.true in
    elim c.if-communal.branch [
      | then-communal+in_ok-put_far_segment w ↦ far-more s (drop (c.loop-communal.communal-index + 1) c.args.communals.now) c.loop-communal.out.items c.if-communal.out.items _ _ (ap (λ v. v.items) w.out-is ∙ w.in_ok-put_far_segment.ensures) next (sym (ap (λ x. x.far) c.communal.view_is) ∙ w.if-communal.true) c.loop-communal.invariant
      | else-communal w ↦ far-same s (drop (c.loop-communal.communal-index + 1) c.args.communals.now) c.loop-communal.out.items c.if-communal.out.items _ _ (ap (λ v. v.items) w.out-is) next (sym (ap (λ x. x.far) c.communal.view_is) ∙ w.if-communal.false) c.loop-communal.invariant
    ]
