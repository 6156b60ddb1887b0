use Rattle.omf_reloc.proofs.HeadlineLaws.{answer_is_there}
use Rattle.omf_reloc.proofs.headline.laws.answers_are_there.Goals as goal

pub returns : goal.returns
returns c = answer_is_there
