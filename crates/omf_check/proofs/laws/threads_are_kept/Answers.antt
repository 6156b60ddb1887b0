use Rattle.omf_check.proofs.ThreadLaws.{threads_kept}
use Rattle.omf_check.proofs.laws.threads_are_kept.Goals as goal

pub returns : goal.returns
returns c = threads_kept
