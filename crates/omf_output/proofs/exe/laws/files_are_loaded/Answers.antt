use Rattle.omf_output.proofs.FileLaws.{files}
use Rattle.omf_output.proofs.exe.laws.files_are_loaded.Goals as goal

pub returns : goal.returns
returns c = files
