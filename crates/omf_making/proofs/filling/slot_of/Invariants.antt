use Rattle.std.proofs.Common.{◌<◌}
use Rattle.omf_making.proofs.filling.slot_of.Given as goal

abbrev pub invariant-loop-looked : goal.invariant-loop-looked
invariant-loop-looked l = l.bucket < 37
