use Rattle.std.proofs.Common.{length}
use Rattle.omf_making.specs.Made.{HasStrong}
use Rattle.omf_making.proofs.making.has_strong.Given as goal

-- what is left decides
abbrev pub invariant-loop-rest : goal.invariant-loop-rest
invariant-loop-rest l = HasStrong l.is_case_sensitive l.rest l.name → HasStrong l.is_case_sensitive l.names l.name

abbrev pub decreases-loop-rest : goal.decreases-loop-rest
decreases-loop-rest l = length l.rest
