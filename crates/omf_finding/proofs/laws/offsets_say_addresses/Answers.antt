use Rattle.omf_finding.proofs.SaidLaws.{offsets-say}
use Rattle.omf_finding.proofs.laws.offsets_say_addresses.Goals as goal

pub returns : goal.returns
returns c = offsets-say
