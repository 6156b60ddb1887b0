use Rattle.omf_map.proofs.OneMap.{maps-are-one}
use Rattle.omf_map.proofs.laws.maps_are_one.Goals as goal

pub returns : goal.returns
returns c = maps-are-one
