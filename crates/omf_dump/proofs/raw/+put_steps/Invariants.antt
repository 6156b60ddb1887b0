use Rattle.std.proofs.Common.{length}
use Rattle.omf_dump.proofs.raw.+put_steps.Given as goal

abbrev pub decreases-put_steps : goal.decreases-put_steps
decreases-put_steps l = length l.steps.now
