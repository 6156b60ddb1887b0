use Rattle.omf_layout.proofs.SeveralLaws.FitLaws.{as-told}
use Rattle.omf_layout.proofs.several.laws.arranged_as_told.Goals as goal

pub returns : goal.returns
returns c = as-told
