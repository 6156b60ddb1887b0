use Rattle.omf_keys.proofs.LinkLaws.{memories}
use Rattle.omf_keys.proofs.laws.memories_by_keys.Goals as goal

pub returns : goal.returns
returns c = memories c.pieces_by_keys.ensures c.meanings_by_keys.ensures c.modules_hold.ensures
