use Rattle.omf_lowering.proofs.DataLaws.{data_are_added}
use Rattle.omf_lowering.proofs.laws.data_are_added.Goals as goal

pub returns : goal.returns
returns c = data_are_added
