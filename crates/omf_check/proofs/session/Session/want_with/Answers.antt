use Rattle.std.proofs.Common.{◌∙◌, sym, arith}
use Rattle.omf_check.proofs.SessionLaws.{open_of, nonzero, none_of, wants_ahead}
use Rattle.omf_check.proofs.session.Session.want_with.Goals as goal

pub returns-then-is_empty-clause-is_open : goal.returns-then-is_empty-clause-is_open
returns-then-is_empty-clause-is_open c =
    let s = c.self.inside in
    rw (← c.self.view_is) (open_of s.profile s.framer.held s.bytes.items s.tables s.fault c.self.invariant)

pub returns-clause-same : goal.returns-clause-same
returns-clause-same c =
    let s = c.self.inside in
    let held = s.bytes.ok.0 in
    let some = nonzero _ (sym c.is_empty.ensures ∙ c.if-is_empty.false) in
    rw (← c.self.view_is) (c.want_with.ensures ∙ wants_ahead s.profile s.framer.held s.bytes.items s.tables s.fault c.args.ahead.now (none_of s.fault (sym c.is_some.ensures ∙ c.if-is_some.false)) c.self.invariant (omega (arith, held, some)))

pub returns-clause-is_open : goal.returns-clause-is_open
returns-clause-is_open c =
    let s = c.self.inside in
    rw (← c.self.view_is) (open_of s.profile s.framer.held s.bytes.items s.tables s.fault c.self.invariant)
