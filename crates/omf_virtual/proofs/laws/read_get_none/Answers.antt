use Rattle.omf_virtual.proofs.ReadLaws.{read_none}
use Rattle.omf_virtual.proofs.laws.read_get_none.Goals as goal

pub returns : goal.returns
returns c = read_none
