use Rattle.omf_trimming.proofs.ReachedLaws.{unique}
use Rattle.omf_trimming.proofs.laws.reaching.reached_are_unique.Goals as goal

pub returns : goal.returns
returns c = unique
