use Rattle.omf_drafting.proofs.FitLaws.{layouts-fit}
use Rattle.omf_drafting.proofs.laws.layouts_fit.Goals as goal

pub returns : goal.returns
returns c = layouts-fit
