use Rattle.omf_check.proofs.CountedLaws.{judging_counts}
use Rattle.omf_check.proofs.laws.judgings_are_counts.Goals as goal

pub returns : goal.returns
returns c = judging_counts
