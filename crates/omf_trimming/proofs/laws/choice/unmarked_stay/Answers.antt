use Rattle.omf_trimming.proofs.ChoiceStayLaws.{unmarked-stay}
use Rattle.omf_trimming.proofs.laws.choice.unmarked_stay.Goals as goal

pub returns : goal.returns
returns c = unmarked-stay
