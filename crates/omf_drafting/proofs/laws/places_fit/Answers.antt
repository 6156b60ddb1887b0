use Rattle.omf_drafting.proofs.FitLaws.{places-fit}
use Rattle.omf_drafting.proofs.laws.places_fit.Goals as goal

pub returns : goal.returns
returns c = places-fit
