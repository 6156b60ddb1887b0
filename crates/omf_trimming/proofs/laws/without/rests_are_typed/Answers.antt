use Rattle.omf_trimming.proofs.AcceptedLaws.{typed-rest}
use Rattle.omf_trimming.proofs.laws.without.rests_are_typed.Goals as goal

pub returns : goal.returns
returns c = typed-rest
