use Rattle.omf_canon.proofs.JoinLaws.{cut-joined}
use Rattle.omf_canon.proofs.laws.cuts_are_joined.Goals as goal

pub returns : goal.returns
returns c = cut-joined
