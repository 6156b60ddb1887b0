use Rattle.omf_exe.proofs.CommunalFinds.{added-define-new-names}
use Rattle.omf_exe.proofs.laws.added_define_new_names.Goals as goal

pub returns : goal.returns
returns c = added-define-new-names
