use Rattle.omf_reloc.proofs.AddedLaws.{all-added}
use Rattle.omf_reloc.proofs.ReachLaws.{reach-decided}
use Rattle.omf_reloc.proofs.laws.all_are_added.Goals as goal

pub returns : goal.returns
returns c = λ pl m r. all-added pl m ((reach-decided pl m).decided.0 r)
