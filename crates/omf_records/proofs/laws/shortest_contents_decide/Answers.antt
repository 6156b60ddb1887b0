use Rattle.omf_records.proofs.ShortestLaws.{shortest_decide}
use Rattle.omf_records.proofs.laws.shortest_contents_decide.Goals as goal

pub returns : goal.returns
returns c = shortest_decide
