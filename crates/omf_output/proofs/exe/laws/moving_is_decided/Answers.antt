use Rattle.omf_output.proofs.MovableLaws.{moving-decided}
use Rattle.omf_output.proofs.exe.laws.moving_is_decided.Goals as goal

pub returns : goal.returns
returns c = moving-decided
