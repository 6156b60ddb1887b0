use Rattle.omf_check.proofs.AcceptLaws.{accepted_once}
use Rattle.omf_check.proofs.laws.modules_are_unique.Goals as goal

pub returns : goal.returns
returns c = accepted_once
