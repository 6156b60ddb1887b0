use Rattle.omf_cmd.proofs.ProgramLaws.{answers_to}
use Rattle.omf_cmd.proofs.jobs.main_with.Goals as goal

pub returns-clause-answers : goal.returns-clause-answers
returns-clause-answers g c = answers_to _ _ _ _ _ _ c.run_with.ensures.answers
