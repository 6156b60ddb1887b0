use Rattle.omf_layout.proofs.SeveralLaws.FitLaws.{places-lie-apart}
use Rattle.omf_layout.proofs.several.laws.places_lie_apart.Goals as goal

pub returns : goal.returns
returns c = places-lie-apart
