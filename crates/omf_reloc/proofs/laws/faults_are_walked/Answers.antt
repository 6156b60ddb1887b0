use Rattle.omf_reloc.proofs.FarLaws.{far-walked, all-placed}
use Rattle.omf_reloc.proofs.laws.faults_are_walked.Goals as goal

pub returns : goal.returns
returns c = λ limits pl m h. record { places = all-placed pl limits m h; faults = far-walked pl limits m h }
