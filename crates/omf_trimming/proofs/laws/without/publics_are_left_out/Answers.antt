use Rattle.omf_trimming.proofs.RecLaws.{publics-left}
use Rattle.omf_trimming.proofs.laws.without.publics_are_left_out.Goals as goal

pub returns : goal.returns
returns c = publics-left
