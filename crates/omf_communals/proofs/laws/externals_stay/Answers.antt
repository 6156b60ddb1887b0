use Rattle.omf_communals.proofs.ExternalLaws.{externals-stay}
use Rattle.omf_communals.proofs.laws.externals_stay.Goals as goal

pub returns : goal.returns
returns c = externals-stay
