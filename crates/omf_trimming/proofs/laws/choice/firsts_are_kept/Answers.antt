use Rattle.omf_trimming.proofs.KeptLaws.{firsts-are-kept}
use Rattle.omf_trimming.proofs.laws.choice.firsts_are_kept.Goals as goal

pub returns : goal.returns
returns c = firsts-are-kept
