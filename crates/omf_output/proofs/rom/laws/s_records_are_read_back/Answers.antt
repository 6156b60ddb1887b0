use Rattle.omf_output.proofs.ReadBack.{s_said}
use Rattle.omf_output.proofs.rom.laws.s_records_are_read_back.Goals as goal

pub returns : goal.returns
returns c = s_said
