use Rattle.omf_output.proofs.TurnLaws.{programs-judged}
use Rattle.omf_output.proofs.exe.laws.programs_are_judged.Goals as goal

pub returns : goal.returns
returns c = programs-judged
