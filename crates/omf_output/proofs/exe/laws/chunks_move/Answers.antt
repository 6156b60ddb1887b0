use Rattle.omf_output.proofs.ChunkMoves.{chunks-move}
use Rattle.omf_output.proofs.exe.laws.chunks_move.Goals as goal

pub returns : goal.returns
returns c = chunks-move
