use Rattle.omf_finding.proofs.RunLaws.{found-agree}
use Rattle.omf_finding.proofs.laws.found_agree.Goals as goal

pub returns : goal.returns
returns c = found-agree
