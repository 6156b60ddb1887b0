use Rattle.omf_records.proofs.ReasonLaws.{layout_inner}
use Rattle.omf_records.proofs.laws.layout_reasons.Goals as goal

pub returns : goal.returns
returns c = layout_inner
