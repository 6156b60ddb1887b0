use Rattle.std.proofs.Common.{Bor, List, ℕ, subst}
use Rattle.omf_finding.specs.Inner.Closing.{HasOneMore, Spot}
use Rattle.omf_finding.proofs.CloseLaws.{one-more}
use Rattle.omf_finding.proofs.closing.ReferredNames.add.Goals as goal

pub returns : goal.returns
returns c =
    let old = c.args.self.now.spots in
    let new = c.insert.new.self in
    let k : Spot = (c.args.address, c.of.result) in
    subst (λ (b : Bor (List ℕ)). HasOneMore old new b.now c.args.address) c.of.ensures (one-more k old new c.in_ok-insert.ensures.keys)
