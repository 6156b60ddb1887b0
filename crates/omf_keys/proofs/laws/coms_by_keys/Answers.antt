use Rattle.omf_keys.proofs.FileLaws.{coms}
use Rattle.omf_keys.proofs.laws.coms_by_keys.Goals as goal

pub returns : goal.returns
returns c = coms c.places_by_keys.ensures c.externals_by_keys.ensures c.movers_by_keys.ensures c.programs_by_keys.ensures c.pieces_by_keys.ensures
