use Rattle.omf_explicit.proofs.ReadLaws.{read_none}
use Rattle.omf_explicit.proofs.laws.read_name_none.Goals as goal

pub returns : goal.returns
returns c = read_none
