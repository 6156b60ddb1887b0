use Rattle.omf_output.proofs.OutcomeMoves.{outcomes}
use Rattle.omf_output.proofs.exe.laws.outcomes_move.Goals as goal

pub returns : goal.returns
returns c = outcomes
