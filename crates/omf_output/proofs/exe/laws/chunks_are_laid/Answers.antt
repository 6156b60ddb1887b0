use Rattle.omf_output.proofs.ChunkMoves.{are-laid}
use Rattle.omf_output.proofs.exe.laws.chunks_are_laid.Goals as goal

pub returns : goal.returns
returns c = are-laid
