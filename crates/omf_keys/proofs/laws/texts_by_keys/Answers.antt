use Rattle.omf_keys.proofs.TextLaws.{texts}
use Rattle.omf_keys.proofs.laws.texts_by_keys.Goals as goal

pub returns : goal.returns
returns c = texts c.pieces_by_keys.ensures
