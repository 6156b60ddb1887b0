use Rattle.omf_layout.proofs.ReadLaws.{drafts-are-read}
use Rattle.omf_layout.proofs.laws.drafts_are_read.Goals as goal

pub returns : goal.returns
returns c = drafts-are-read
