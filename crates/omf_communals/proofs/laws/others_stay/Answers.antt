use Rattle.omf_communals.proofs.StayLaws.{others-stay}
use Rattle.omf_communals.proofs.laws.others_stay.Goals as goal

pub returns : goal.returns
returns c = others-stay
