use Rattle.omf_records.specs.Inner.LawProofs.{stand_behind}
use Rattle.omf_records.proofs.laws.faults_stand_behind.Goals as goal

pub returns : goal.returns
returns c = stand_behind
