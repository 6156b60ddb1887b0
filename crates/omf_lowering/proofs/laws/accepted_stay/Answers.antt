use Rattle.omf_lowering.proofs.AcceptedLaws.{accepted}
use Rattle.omf_lowering.proofs.laws.accepted_stay.Goals as goal

pub returns : goal.returns
returns c = accepted
