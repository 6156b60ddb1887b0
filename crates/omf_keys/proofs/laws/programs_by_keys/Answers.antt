use Rattle.omf_keys.proofs.TwinLaws.{one-program}
use Rattle.omf_keys.proofs.laws.programs_by_keys.Goals as goal

pub returns : goal.returns
returns c = λ j ms ns placements movers h. one-program c.pieces_by_keys.ensures c.meanings_by_keys.ensures c.modules_hold.ensures j ms ns placements movers h
