use Rattle.omf_output.proofs.Binaries.{bytes_are}
use Rattle.omf_output.proofs.rom.laws.binaries_have_the_bytes.Goals as goal

pub returns : goal.returns
returns c from end fill runs h = bytes_are from end fill runs h
