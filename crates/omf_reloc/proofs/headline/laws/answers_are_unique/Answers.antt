use Rattle.omf_reloc.proofs.HeadlineLaws.{answer_is_unique}
use Rattle.omf_reloc.proofs.headline.laws.answers_are_unique.Goals as goal

pub returns : goal.returns
returns c = answer_is_unique
