use Rattle.std.proofs.Common.{length}
use Rattle.omf_lib.proofs.names.typed_name.Given as goal

-- the bytes that are left
abbrev pub decreases-loop-rest : goal.decreases-loop-rest
decreases-loop-rest l = length l.rest
