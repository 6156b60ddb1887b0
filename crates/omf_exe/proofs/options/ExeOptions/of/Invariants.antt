use Rattle.std.proofs.Common.{length}
use Rattle.omf_exe.proofs.options.ExeOptions.of.Given as goal

-- the arguments that are left
abbrev pub decreases-loop-rest : goal.decreases-loop-rest
decreases-loop-rest l = length l.rest
