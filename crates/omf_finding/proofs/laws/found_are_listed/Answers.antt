use Rattle.omf_finding.proofs.RunLaws.{found-listed}
use Rattle.omf_finding.proofs.laws.found_are_listed.Goals as goal

pub returns : goal.returns
returns c = found-listed
