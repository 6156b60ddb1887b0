use Rattle.omf_records.specs.Inner.LawProofs.{least_of_faults}
use Rattle.omf_records.proofs.laws.layout_faults_are_least.Goals as goal

pub returns : goal.returns
returns c = least_of_faults
