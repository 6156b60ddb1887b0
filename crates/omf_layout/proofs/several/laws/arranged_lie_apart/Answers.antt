use Rattle.omf_layout.proofs.SeveralLaws.ApartLaws.{arranged-lie-apart}
use Rattle.omf_layout.proofs.several.laws.arranged_lie_apart.Goals as goal

pub returns : goal.returns
returns c = arranged-lie-apart
