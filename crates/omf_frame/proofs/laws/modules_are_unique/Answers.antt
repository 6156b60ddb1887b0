use Rattle.omf_frame.proofs.ModuleLaws.{framed_once}
use Rattle.omf_frame.proofs.laws.modules_are_unique.Goals as goal

pub returns : goal.returns
returns c = framed_once
