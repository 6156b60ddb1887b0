use Rattle.omf_exe.proofs.MovedMembers.{externals-loaded}
use Rattle.omf_exe.proofs.laws.externals_are_loaded.Goals as goal

pub returns : goal.returns
returns c = externals-loaded
