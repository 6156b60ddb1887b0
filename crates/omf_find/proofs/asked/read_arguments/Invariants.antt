use Rattle.std.proofs.Common.{length}
use Rattle.omf_find.proofs.asked.read_arguments.Given as goal

-- the arguments that are left
abbrev pub decreases-loop-argument : goal.decreases-loop-argument
decreases-loop-argument l = length l.words.rest.items
