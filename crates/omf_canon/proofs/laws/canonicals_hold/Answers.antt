use Rattle.omf_canon.proofs.SpelledLaws.{canonical-holds}
use Rattle.omf_canon.proofs.laws.canonicals_hold.Goals as goal

pub returns : goal.returns
returns c = canonical-holds c.contents_are_typed_once.ensures c.shortest_contents_are_typed.ensures c.values_are_typed.ensures c.typed_have_values.ensures c.places_do_not_count.ensures
