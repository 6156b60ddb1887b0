use Rattle.std.proofs.Common.{None, ap, sym, subst}
use Rattle.omf_frame.specs.Framer.{Buffer, at_start}
use Rattle.omf_check.specs.Session.{IsOpen}
use Rattle.omf_check.proofs.Moving.{starting}
use Rattle.omf_check.proofs.SessionLaws.{open_start, seen}
use Rattle.omf_check.proofs.session.Session.new.Goals as goal

pub invariant_of-result : goal.invariant_of-result
invariant_of-result c = starting c.args.profile c.new.result.held c.new-2.result.items c.new-3.result (ap (λ (b : Buffer). b.held) c.new.ensures) c.new-2.ensures.items c.new-3.ensures

pub returns-clause-is_open : goal.returns-clause-is_open
returns-clause-is_open c =
    let p = c.args.profile in
    subst (λ h. IsOpen (seen p h c.new-2.result.items None)) (sym (ap (λ (b : Buffer). b.held) c.new.ensures)) (subst (λ x. IsOpen (seen p at_start x None)) (sym c.new-2.ensures.items) (open_start p))
