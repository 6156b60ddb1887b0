use Rattle.omf_combining.proofs.StackLaws.{stack-is-as-asked}
use Rattle.omf_combining.proofs.laws.stack_is_as_asked.Goals as goal

pub returns : goal.returns
returns c = stack-is-as-asked
