use Rattle.omf_cmd.proofs.ProgramLaws.{told}
use Rattle.omf_cmd.proofs.output.tell.Goals as goal

pub returns-clause-prints : goal.returns-clause-prints
returns-clause-prints g c = told _ _ c.args.bytes.now c.push_all.result c.push_all.ensures.bytes c.push_all.ensures.cause c.push_all.ensures.grows c.push_all.ensures.tried
