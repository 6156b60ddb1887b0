use Rattle.omf_trimming.proofs.ReachedLaws.{all-stay}
use Rattle.omf_trimming.proofs.laws.reaching.all_reached_stay.Goals as goal

pub returns : goal.returns
returns c = all-stay
