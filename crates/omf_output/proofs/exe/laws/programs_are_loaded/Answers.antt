use Rattle.omf_output.proofs.ProgramLaws.{programs}
use Rattle.omf_output.proofs.exe.laws.programs_are_loaded.Goals as goal

pub returns : goal.returns
returns c = programs
