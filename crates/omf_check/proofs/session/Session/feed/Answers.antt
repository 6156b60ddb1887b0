use Rattle.omf_check.proofs.SessionLaws.{feeds_kept, state_of}
use Rattle.omf_check.proofs.session.Session.feed.Goals as goal

pub returns-in-Ok-clause-ok : goal.returns-in-Ok-clause-ok
returns-in-Ok-clause-ok c =
    let s = c.self.inside in
    let p = state_of s.profile s.framer.held s.bytes.items s.tables s.fault c.in_default.is c.self.invariant in
    rw (← c.self.view_is) (
    feeds_kept s.profile s.framer.held c.step.new.framer.held s.bytes.items c.step.new.keeper.items c.args.piece.now s.tables c.step.new.tables c.in-Ok.fed.taken c.in-Ok.fed.whole s.fault
    c.in_default.is c.self.invariant c.in-Ok.ensures.grown (c.in-Ok.ensures.moves s.bytes.items p) (c.in-Ok.ensures.passing s.bytes.items p))
