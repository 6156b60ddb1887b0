use Rattle.omf_output.proofs.JudgedLaws.{judged}
use Rattle.omf_output.proofs.exe.laws.judged_move.Goals as goal

pub returns : goal.returns
returns c = judged
