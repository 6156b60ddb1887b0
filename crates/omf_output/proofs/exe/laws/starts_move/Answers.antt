use Rattle.omf_output.proofs.StartMoves.{start-moves}
use Rattle.omf_output.proofs.exe.laws.starts_move.Goals as goal

pub returns : goal.returns
returns c = start-moves
