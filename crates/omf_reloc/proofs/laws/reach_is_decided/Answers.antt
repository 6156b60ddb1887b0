use Rattle.omf_reloc.proofs.ReachLaws.{reach-decided}
use Rattle.omf_reloc.proofs.laws.reach_is_decided.Goals as goal

pub returns : goal.returns
returns c = reach-decided
