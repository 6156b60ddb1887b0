use Rattle.omf_layout.proofs.ApartLaws.{layouts-lie-apart}
use Rattle.omf_layout.proofs.laws.layouts_lie_apart.Goals as goal

pub returns : goal.returns
returns c = layouts-lie-apart
