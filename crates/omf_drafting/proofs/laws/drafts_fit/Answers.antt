use Rattle.omf_drafting.proofs.PlacesLaws.{drafts-fit}
use Rattle.omf_drafting.proofs.laws.drafts_fit.Goals as goal

pub returns : goal.returns
returns c = drafts-fit
