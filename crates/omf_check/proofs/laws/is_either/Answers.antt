use Rattle.omf_check.proofs.VerdictLaws.{either}
use Rattle.omf_check.proofs.laws.is_either.Goals as goal

pub returns : goal.returns
returns c = either
