use Rattle.omf_layout.proofs.CommunalLaws.{communals_apart}
use Rattle.omf_layout.proofs.laws.communals_lie_apart.Goals as goal

pub returns : goal.returns
returns c = communals_apart
