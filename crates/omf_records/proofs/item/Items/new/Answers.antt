use Rattle.std.proofs.Common.{ap, ◌∙◌}
use Rattle.std.specs.Result.{result_err}
use Rattle.omf_records.specs.Inner.Reads.{after}
use Rattle.omf_records.specs.Inner.Each.{each_turn, with_first_fault, not_yet}
use Rattle.omf_records.proofs.item.Items.new.Goals as goal

pub loop-left-smaller : goal.loop-left-smaller
loop-left-smaller g c =
    let S = g.T.From.Cursor in
    let f = c.loop-left.left in
    let t = c.in_ok-_item.after in
    g.met.T.Item.shrinks (S.wide f) (S.place f) (S.rest f) (after c.in_ok-_item._item (S.place t) (S.rest t)) c.in_ok-_item.ensures.0

pub loop-left-preserved : goal.loop-left-preserved
loop-left-preserved g c =
    let S = g.T.From.Cursor in
    let f = c.loop-left.left in
    let t = c.in_ok-_item.after in
    let step = each_turn (λ w. (g.T.Item.reader w).read) g.met.T.Item.shrinks (S.wide f) (S.wide t) (S.place f) (S.rest f) (after c.in_ok-_item._item (S.place t) (S.rest t)) c.in_ok-_item.ensures.1 (λ h. not_yet c.is_end.result _ c.is_end.ensures c.loop-left-test.true h) c.in_ok-_item.ensures.0 in
    c.loop-left.invariant ∙ (ap result_err step ∙ with_first_fault _ _)
