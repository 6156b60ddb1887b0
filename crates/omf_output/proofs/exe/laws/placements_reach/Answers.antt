use Rattle.omf_output.proofs.StartMoves.{placements-reach}
use Rattle.omf_output.proofs.exe.laws.placements_reach.Goals as goal

pub returns : goal.returns
returns c = placements-reach
