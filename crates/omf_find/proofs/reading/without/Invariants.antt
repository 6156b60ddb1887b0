use Rattle.std.proofs.Common.{length}
use Rattle.omf_find.proofs.reading.without.Given as goal

-- the bytes that are left
abbrev pub decreases-loop-first : goal.decreases-loop-first
decreases-loop-first l = length l.left
