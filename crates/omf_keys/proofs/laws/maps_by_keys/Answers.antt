use Rattle.omf_keys.proofs.FileLaws.{maps}
use Rattle.omf_keys.proofs.laws.maps_by_keys.Goals as goal

pub returns : goal.returns
returns c = maps c.places_by_keys.ensures c.externals_by_keys.ensures c.movers_by_keys.ensures c.programs_by_keys.ensures c.pieces_by_keys.ensures
