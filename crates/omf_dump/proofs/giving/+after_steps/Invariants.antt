use Rattle.std.proofs.Common.{length}
use Rattle.omf_dump.proofs.giving.+after_steps.Given as goal

abbrev pub decreases-after_steps : goal.decreases-after_steps
decreases-after_steps l = length l.steps.now
