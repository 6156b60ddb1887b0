use Rattle.omf_frame.proofs.Judged.{framing_reason}
use Rattle.omf_frame.proofs.laws.framing_reasons.Goals as goal

pub returns : goal.returns
returns c = framing_reason
