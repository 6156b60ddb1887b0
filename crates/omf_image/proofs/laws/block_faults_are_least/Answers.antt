use Rattle.omf_image.proofs.ComputedLaws.{faults_are_least}
use Rattle.omf_image.proofs.laws.block_faults_are_least.Goals as goal

pub returns : goal.returns
returns c = faults_are_least
