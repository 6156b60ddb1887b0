use Rattle.omf_lowered.proofs.AcceptedLaws.{accepted_module}
use Rattle.omf_lowered.proofs.laws.accepted_stay.Goals as goal

pub returns : goal.returns
returns c = accepted_module
