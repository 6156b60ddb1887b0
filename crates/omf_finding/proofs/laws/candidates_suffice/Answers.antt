use Rattle.omf_finding.proofs.AmongLaws.{candidates-suffice}
use Rattle.omf_finding.proofs.laws.candidates_suffice.Goals as goal

pub returns : goal.returns
returns c = candidates-suffice
