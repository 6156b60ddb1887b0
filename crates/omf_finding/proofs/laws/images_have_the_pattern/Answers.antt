use Rattle.omf_finding.proofs.PatternLaws.{have-pattern}
use Rattle.omf_finding.proofs.laws.images_have_the_pattern.Goals as goal

pub returns : goal.returns
returns c = have-pattern
