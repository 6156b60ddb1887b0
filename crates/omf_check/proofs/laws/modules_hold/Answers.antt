use Rattle.omf_check.proofs.SoundLaws.{module_holds}
use Rattle.omf_check.proofs.laws.modules_hold.Goals as goal

pub returns : goal.returns
returns c = module_holds
