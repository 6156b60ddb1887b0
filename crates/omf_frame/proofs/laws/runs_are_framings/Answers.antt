use Rattle.omf_frame.proofs.ModuleLaws.{framing_from_start}
use Rattle.omf_frame.proofs.laws.runs_are_framings.Goals as goal

pub returns : goal.returns
returns c = framing_from_start
