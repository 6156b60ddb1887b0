use Rattle.std.proofs.Common.{◌≡◌, Bool, true, IsTrue, ap, ◌∙◌, rules}
use Rattle.omf_records.specs.Inner.Each.{each_none, each_some, not_yet}
use Rattle.omf_records.proofs.unread.Unread.is_end.Goals as goal

holds : (b : Bool) → b ≡ true → IsTrue b
holds b e = search (rules, e)

pub returns-clause-ends : goal.returns-clause-ends
returns-clause-ends g c t =
    let S = g.T.From.Cursor in
    let f = c.self.inside.from in
    rw (← c.self.view_is) (each_none (g.T.Item.reader (S.wide f)).read (S.place f) (S.rest f) (c.is_end.ensures.0 (holds c.is_end.result t)))

pub returns-clause-some : goal.returns-clause-some
returns-clause-some g c t xs e =
    let S = g.T.From.Cursor in
    let f = c.self.inside.from in
    each_some (g.T.Item.reader (S.wide f)).read (S.place f) (S.rest f) xs (λ h. not_yet c.is_end.result _ c.is_end.ensures t h) (ap (λ p. p.items) c.self.view_is ∙ e)
