use Rattle.std.proofs.Common.{length}
use Rattle.omf_lib.proofs.asked.read_words.Given as goal

-- the arguments that are left
abbrev pub decreases-loop-argument : goal.decreases-loop-argument
decreases-loop-argument l = length l.words.rest.items
