use Rattle.omf_layout.proofs.SeveralLaws.OnceLaws.{ordered-once}
use Rattle.omf_layout.proofs.several.laws.ordered_once.Goals as goal

pub returns : goal.returns
returns c = ordered-once
