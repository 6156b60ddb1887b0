use Rattle.omf_drafting.proofs.PlacesLaws.{drafts-lie-apart}
use Rattle.omf_drafting.proofs.laws.drafts_lie_apart.Goals as goal

pub returns : goal.returns
returns c = drafts-lie-apart
