use Rattle.omf_drafting.proofs.PlacesLaws.{drafts-are-read}
use Rattle.omf_drafting.proofs.laws.drafts_are_read.Goals as goal

pub returns : goal.returns
returns c = drafts-are-read
