use Rattle.omf_records.specs.Inner.LawProofs.{unique}
use Rattle.omf_records.proofs.laws.typed_records_are_unique.Goals as goal

pub returns : goal.returns
returns c = unique
