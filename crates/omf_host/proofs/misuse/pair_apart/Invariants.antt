use Rattle.std.proofs.Common.{length}
use Rattle.omf_host.proofs.misuse.pair_apart.Given as goal

abbrev pub decreases-loop-rest : goal.decreases-loop-rest
decreases-loop-rest l = length l.rest
