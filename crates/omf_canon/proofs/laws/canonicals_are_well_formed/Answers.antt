use Rattle.omf_canon.proofs.FramedLaws.{canonical-well-formed}
use Rattle.omf_canon.proofs.laws.canonicals_are_well_formed.Goals as goal

pub returns : goal.returns
returns c = canonical-well-formed c.contents_are_typed_once.ensures c.shortest_contents_are_typed.ensures c.values_are_typed.ensures c.typed_have_values.ensures c.places_do_not_count.ensures c.modules_hold.ensures
