use Rattle.omf_frame.proofs.Tries.{last_try}
use Rattle.omf_cmd.proofs.output.write_all.Goals as goal

pub returns-in-Err-clause-cause : goal.returns-in-Err-clause-cause
returns-in-Err-clause-cause g c = (c.in-Err.ensures.cause, last_try _ _ _ c.in-Err.ensures.tried)
