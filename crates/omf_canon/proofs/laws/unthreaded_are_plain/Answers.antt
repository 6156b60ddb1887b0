use Rattle.omf_canon.proofs.UnthreadedLaws.{plain-again}
use Rattle.omf_canon.proofs.laws.unthreaded_are_plain.Goals as goal

pub returns : goal.returns
returns c = plain-again
