use Rattle.omf_records.specs.Inner.Reads.{after}
use Rattle.omf_records.specs.Inner.Each.{each_turn, not_yet}
use Rattle.omf_records.specs.Inner.Front.{front_turn}
use Rattle.omf_records.proofs.unread.Unread.read_next.Goals as goal

pub returns-clause-next : goal.returns-clause-next
returns-clause-next g c =
    let S = g.T.From.Cursor in
    let f = c.self.inside.from in
    let t = c.in_ok-item.after in
    let a = after c.in_ok-item.item (S.place t) (S.rest t) in
    let step = each_turn (λ w. (g.T.Item.reader w).read) g.met.T.Item.shrinks (S.wide f) (S.wide t) (S.place f) (S.rest f) a c.in_ok-item.ensures.1 (λ h. not_yet c.is_end.result _ c.is_end.ensures c.if-is_end.false h) c.in_ok-item.ensures.0 in
    let less = g.met.T.Item.shrinks (S.wide f) (S.place f) (S.rest f) a c.in_ok-item.ensures.0 in
    rw (← c.self.view_is, c.offset.ensures) (step, less)

pub returns-clause-front : goal.returns-clause-front
returns-clause-front g c =
    let S = g.T.From.Cursor in
    let f = c.self.inside.from in
    let t = c.in_ok-item.after in
    let a = after c.in_ok-item.item (S.place t) (S.rest t) in
    let step = front_turn (λ w. (g.T.Item.reader w).read) g.met.T.Item.shrinks (S.wide f) (S.wide t) (S.place f) (S.rest f) a c.in_ok-item.ensures.1 (λ h. not_yet c.is_end.result _ c.is_end.ensures c.if-is_end.false h) c.in_ok-item.ensures.0 in
    rw (← c.self.view_is, c.offset.ensures) step
