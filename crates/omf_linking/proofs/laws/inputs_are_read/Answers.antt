use Rattle.omf_linking.proofs.InputLaws.{are_read}
use Rattle.omf_linking.proofs.laws.inputs_are_read.Goals as goal

pub returns : goal.returns
returns c = are_read
