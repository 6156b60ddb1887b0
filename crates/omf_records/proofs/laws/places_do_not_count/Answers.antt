use Rattle.omf_records.proofs.ShortestLaws.{shown}
use Rattle.omf_records.proofs.laws.places_do_not_count.Goals as goal

pub returns : goal.returns
returns c = shown
