use Rattle.omf_check.proofs.RefusalLaws.{refusal_stays}
use Rattle.omf_check.proofs.laws.refusals_stay.Goals as goal

pub returns : goal.returns
returns c = refusal_stays
