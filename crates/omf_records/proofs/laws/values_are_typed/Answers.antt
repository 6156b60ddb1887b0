use Rattle.omf_records.proofs.ValueLaws.{values-typed}
use Rattle.omf_records.proofs.laws.values_are_typed.Goals as goal

pub returns : goal.returns
returns c = values-typed
