use Rattle.omf_trimming.proofs.AcceptedLaws.{well-formed-rest}
use Rattle.omf_trimming.proofs.laws.without.rests_are_well_formed.Goals as goal

pub returns : goal.returns
returns c = well-formed-rest
