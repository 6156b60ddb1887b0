use Rattle.std.proofs.lemmas.Option.{IfSome_then}
use Rattle.omf_finding.proofs.StrayLaws.{stray-from}
use Rattle.omf_finding.proofs.following.Search.stray.Goals as goal

pub returns : goal.returns
returns c = IfSome_then c.elsewhere.result c.elsewhere.ensures (λ s h. stray-from _ _ _ _ s h)
