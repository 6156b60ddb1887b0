use Rattle.omf_aligned.proofs.StayLaws.{read_stay}
use Rattle.omf_aligned.proofs.laws.read_stay.Goals as goal

pub returns : goal.returns
returns c = read_stay
