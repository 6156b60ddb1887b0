use Rattle.omf_exe.proofs.CommunalFinds.{communals-are-found}
use Rattle.omf_exe.proofs.laws.communals_are_found.Goals as goal

pub returns : goal.returns
returns c = communals-are-found
