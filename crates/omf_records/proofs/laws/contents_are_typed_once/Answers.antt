use Rattle.omf_records.specs.Inner.LawProofs.{are_typed}
use Rattle.omf_records.proofs.laws.contents_are_typed_once.Goals as goal

pub returns : goal.returns
returns c = are_typed
