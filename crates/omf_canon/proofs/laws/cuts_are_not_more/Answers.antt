use Rattle.omf_canon.proofs.CountLaws.{canonical-items}
use Rattle.omf_canon.proofs.laws.cuts_are_not_more.Goals as goal

pub returns : goal.returns
returns c = canonical-items
