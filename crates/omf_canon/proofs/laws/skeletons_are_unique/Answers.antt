use Rattle.omf_canon.proofs.JoinLaws.{joined-once, skeleton-from}
use Rattle.omf_canon.proofs.laws.skeletons_are_unique.Goals as goal

pub returns : goal.returns
returns c = λ ps qs. (λ h. joined-once ps qs h.0 h.1, skeleton-from ps qs)
