use Rattle.omf_records.specs.Inner.LawProofs.{meet}
use Rattle.omf_records.proofs.laws.readings_meet_layouts.Goals as goal

pub returns : goal.returns
returns c = meet
