use Rattle.omf_records.proofs.ShortestLaws.{shortest_typed}
use Rattle.omf_records.proofs.laws.shortest_contents_are_typed.Goals as goal

pub returns : goal.returns
returns c = shortest_typed
