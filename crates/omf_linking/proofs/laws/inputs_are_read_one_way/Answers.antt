use Rattle.omf_linking.proofs.OneReading.{one_reading}
use Rattle.omf_linking.proofs.laws.inputs_are_read_one_way.Goals as goal

pub returns : goal.returns
returns c = one_reading
