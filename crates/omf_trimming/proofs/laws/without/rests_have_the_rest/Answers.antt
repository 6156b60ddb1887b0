use Rattle.omf_trimming.proofs.RecLaws.{has-the-rest}
use Rattle.omf_trimming.proofs.laws.without.rests_have_the_rest.Goals as goal

pub returns : goal.returns
returns c = has-the-rest
