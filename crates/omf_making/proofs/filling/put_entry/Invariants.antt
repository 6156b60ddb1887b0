use Rattle.std.proofs.Common.{◌<◌}
use Rattle.omf_making.proofs.filling.put_entry.Given as goal

abbrev pub invariant-loop-passed : goal.invariant-loop-passed
invariant-loop-passed l = l.number < l.count
