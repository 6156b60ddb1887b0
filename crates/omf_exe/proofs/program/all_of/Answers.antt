use Rattle.omf_exe.proofs.JoiningLaws.{refused_needed}
use Rattle.omf_exe.proofs.program.all_of.Goals as goal

pub returns-in-Err-clause-refused : goal.returns-in-Err-clause-refused
returns-in-Err-clause-refused c = λ e. refused_needed c.args.input.given.items c.args.input.members.items c.in-Err.fault c.in-Err.ensures.fault (c.of_joining.ensures e)
