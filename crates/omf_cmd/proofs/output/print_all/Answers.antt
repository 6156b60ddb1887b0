use Rattle.std.proofs.Common.{refl}
use Rattle.omf_frame.proofs.Tries.{last_try}
use Rattle.omf_cmd.proofs.output.print_all.Goals as goal

pub returns-in-Ok : goal.returns-in-Ok
returns-in-Ok g c = ((c.in-Ok.ensures.tried, c.in-Ok.ensures.grows), c.in-Ok.ensures.bytes)

pub returns-in-Err : goal.returns-in-Err
returns-in-Err g c = (refl, (c.in-Err.ensures.cause, last_try _ _ _ c.in-Err.ensures.tried), c.in-Err.ensures.bytes)
