use Rattle.omf_frame.proofs.ModuleLaws.{module_read}
use Rattle.omf_frame.proofs.laws.modules_are_read.Goals as goal

pub returns : goal.returns
returns c = module_read
