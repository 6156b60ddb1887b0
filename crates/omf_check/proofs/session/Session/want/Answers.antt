use Rattle.omf_check.proofs.SessionLaws.{open_of}
use Rattle.omf_check.proofs.session.Session.want.Goals as goal

pub returns-clause-is_open : goal.returns-clause-is_open
returns-clause-is_open c =
    let s = c.self.inside in
    rw (← c.self.view_is) (open_of s.profile s.framer.held s.bytes.items s.tables s.fault c.self.invariant)
