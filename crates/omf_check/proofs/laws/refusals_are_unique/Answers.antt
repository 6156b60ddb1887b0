use Rattle.omf_check.proofs.UniqueLaws.{refused_once}
use Rattle.omf_check.proofs.laws.refusals_are_unique.Goals as goal

pub returns : goal.returns
returns c = refused_once
