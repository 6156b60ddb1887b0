use Rattle.omf_placement.proofs.LowestLaws.{takes-from, takes-to}
use Rattle.omf_placement.proofs.laws.groups_take_the_lowest.Goals as goal

pub returns : goal.returns
returns c = λ m xs i f. (takes-from m xs i f, takes-to m xs i f)
