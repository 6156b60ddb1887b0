use Rattle.omf_image.proofs.RunLaws.{joined_are_runs, runs_unique}
use Rattle.omf_image.proofs.laws.runs_are_maximal.Goals as goal

pub returns : goal.returns
returns c = (joined_are_runs, runs_unique)
