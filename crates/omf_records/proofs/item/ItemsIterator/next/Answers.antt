use Rattle.std.proofs.Common.{sym, ap, ◌∙◌, is_ok}
use Rattle.omf_records.specs.Inner.Reads.{after, or_none}
use Rattle.omf_records.specs.Inner.Each.{each_turn, with_first_ok, with_first_items, not_yet, shorter}
use Rattle.omf_records.proofs.item.ItemsIterator.next.Goals as goal

pub invariant_of-self : goal.invariant_of-self
invariant_of-self g c =
    let S = g.T.From.Cursor in
    let f = c.self.inside.from in
    let t = c.in-Ok.after in
    let step = each_turn (λ w. (g.T.Item.reader w).read) g.met.T.Item.shrinks (S.wide f) (S.wide t) (S.place f) (S.rest f) (after c.in-Ok.item (S.place t) (S.rest t)) c.in-Ok.ensures.1 (λ h. not_yet c.is_end.result _ c.is_end.ensures c.if-is_end.false h) c.in-Ok.ensures.0 in
    with_first_ok _ _ (ap is_ok (sym step) ∙ c.self.invariant)

pub returns-in-Ok-clause-steps : goal.returns-in-Ok-clause-steps
returns-in-Ok-clause-steps g c =
    let S = g.T.From.Cursor in
    let f = c.self.inside.from in
    let t = c.in-Ok.after in
    let step = each_turn (λ w. (g.T.Item.reader w).read) g.met.T.Item.shrinks (S.wide f) (S.wide t) (S.place f) (S.rest f) (after c.in-Ok.item (S.place t) (S.rest t)) c.in-Ok.ensures.1 (λ h. not_yet c.is_end.result _ c.is_end.ensures c.if-is_end.false h) c.in-Ok.ensures.0 in
    rw (← c.self.view_is, c.offset.ensures) (ap or_none step ∙ with_first_items _ _ (with_first_ok _ _ (ap is_ok (sym step) ∙ c.self.invariant)))

pub returns-in-Ok-clause-goes : goal.returns-in-Ok-clause-goes
returns-in-Ok-clause-goes g c =
    let S = g.T.From.Cursor in
    let f = c.self.inside.from in
    let t = c.in-Ok.after in
    let step = each_turn (λ w. (g.T.Item.reader w).read) g.met.T.Item.shrinks (S.wide f) (S.wide t) (S.place f) (S.rest f) (after c.in-Ok.item (S.place t) (S.rest t)) c.in-Ok.ensures.1 (λ h. not_yet c.is_end.result _ c.is_end.ensures c.if-is_end.false h) c.in-Ok.ensures.0 in
    shorter _ _ (record { within = S.place f; item = c.in-Ok.item }) _ (sym c.self.view_is ∙ (ap or_none step ∙ with_first_items _ _ (with_first_ok _ _ (ap is_ok (sym step) ∙ c.self.invariant))))
