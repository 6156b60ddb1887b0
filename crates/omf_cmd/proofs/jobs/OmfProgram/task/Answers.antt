use Rattle.omf_cmd.proofs.ProgramLaws.{is_found}
use Rattle.omf_cmd.proofs.jobs.OmfProgram.task.Goals as goal

pub returns : goal.returns
returns c = is_found _ c.command.result c.command.ensures.asks c.command.ensures.parsed c.command.ensures.none c.command.ensures.refused
