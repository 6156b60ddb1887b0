use Rattle.std.proofs.Common.{Bor, List, ℕ, ap, ◌∙◌}
use Rattle.omf_finding.specs.Inner.Closing.{has_spot}
use Rattle.omf_finding.proofs.closing.ReferredNames.has.Goals as goal

pub returns : goal.returns
returns c = c.contains.ensures ∙ ap (λ (b : Bor (List ℕ)). has_spot c.args.self.now.spots b.now c.args.address) c.of.ensures
