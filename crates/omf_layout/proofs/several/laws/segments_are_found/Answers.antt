use Rattle.omf_layout.proofs.SeveralLaws.FoundLaws.{segments-are-found}
use Rattle.omf_layout.proofs.several.laws.segments_are_found.Goals as goal

pub returns : goal.returns
returns c = segments-are-found
