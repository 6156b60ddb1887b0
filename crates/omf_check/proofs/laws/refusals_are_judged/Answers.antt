use Rattle.omf_check.proofs.JudgedLaws.{decided_by_front, ends_exactly}
use Rattle.omf_check.proofs.laws.refusals_are_judged.Goals as goal

pub returns : goal.returns
returns c = λ profile limits input why at small r. (decided_by_front profile limits input why at small r, ends_exactly profile limits input why at small r)
