use Rattle.omf_lowering.proofs.FitLaws.{values_fit}
use Rattle.omf_lowering.proofs.laws.values_fit.Goals as goal

pub returns : goal.returns
returns c = values_fit
