use Rattle.omf_records.proofs.ValueLaws.{typed-values}
use Rattle.omf_records.proofs.laws.typed_have_values.Goals as goal

pub returns : goal.returns
returns c = typed-values
