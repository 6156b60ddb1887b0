use Rattle.omf_output.proofs.ExternalLaws.{externals-move}
use Rattle.omf_output.proofs.exe.laws.externals_move.Goals as goal

pub returns : goal.returns
returns c = externals-move
