use Rattle.omf_canon.proofs.JoinLaws.{skeleton-joined}
use Rattle.omf_canon.proofs.laws.skeletons_are_joined.Goals as goal

pub returns : goal.returns
returns c = skeleton-joined
