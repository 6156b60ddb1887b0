use Rattle.std.proofs.Common.{subst}
use Rattle.omf_exe.specs.Sharing.{IsSharingFault}
use Rattle.omf_exe.proofs.program.share_communals.Goals as goal

pub returns-in-Err-clause-refused : goal.returns-in-Err-clause-refused
returns-in-Err-clause-refused c = λ e. (c.in-Err.fault, c.of_sharing.ensures e, subst (λ ms. IsSharingFault c.args.kind ms c.in-Err.fault) c.deref.ensures.value c.in-Err.ensures.fault)
