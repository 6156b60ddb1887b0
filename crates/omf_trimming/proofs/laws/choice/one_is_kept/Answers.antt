use Rattle.omf_trimming.proofs.KeptLaws.{one-is-kept}
use Rattle.omf_trimming.proofs.laws.choice.one_is_kept.Goals as goal

pub returns : goal.returns
returns c = one-is-kept
