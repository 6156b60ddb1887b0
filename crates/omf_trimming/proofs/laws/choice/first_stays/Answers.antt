use Rattle.omf_trimming.proofs.ChoiceStayLaws.{first-stays}
use Rattle.omf_trimming.proofs.laws.choice.first_stays.Goals as goal

pub returns : goal.returns
returns c = first-stays
