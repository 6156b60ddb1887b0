use Rattle.omf_check.proofs.AcceptLaws.{never_both}
use Rattle.omf_check.proofs.laws.never_both.Goals as goal

pub returns : goal.returns
returns c = never_both
