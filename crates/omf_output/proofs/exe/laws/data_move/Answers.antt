use Rattle.omf_output.proofs.DataMoves.{data-moves}
use Rattle.omf_output.proofs.exe.laws.data_move.Goals as goal

pub returns : goal.returns
returns c = data-moves
