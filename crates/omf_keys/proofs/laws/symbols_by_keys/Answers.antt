use Rattle.omf_keys.proofs.FileLaws.{symbols}
use Rattle.omf_keys.proofs.laws.symbols_by_keys.Goals as goal

pub returns : goal.returns
returns c = symbols c.places_by_keys.ensures c.externals_by_keys.ensures c.movers_by_keys.ensures c.programs_by_keys.ensures c.pieces_by_keys.ensures
