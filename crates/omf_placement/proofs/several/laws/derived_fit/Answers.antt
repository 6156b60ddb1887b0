use Rattle.omf_placement.proofs.DeriveLaws.{derived-fit}
use Rattle.omf_placement.proofs.several.laws.derived_fit.Goals as goal

pub returns : goal.returns
returns c = λ ms given pls h. derived-fit ms given pls h
