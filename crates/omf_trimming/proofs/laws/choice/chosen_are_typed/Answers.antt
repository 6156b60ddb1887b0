use Rattle.omf_trimming.proofs.KeptLaws.{chosen-are-typed}
use Rattle.omf_trimming.proofs.laws.choice.chosen_are_typed.Goals as goal

pub returns : goal.returns
returns c = chosen-are-typed
