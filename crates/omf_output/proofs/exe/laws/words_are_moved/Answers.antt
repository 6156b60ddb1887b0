use Rattle.omf_output.proofs.MovedWords.{are-moved}
use Rattle.omf_output.proofs.exe.laws.words_are_moved.Goals as goal

pub returns : goal.returns
returns c = are-moved
