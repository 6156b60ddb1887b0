use Rattle.std.proofs.Common.{◌≡◌, ◌++◌, List, drop}
use Rattle.std.specs.Prelude.{flat_map}
use Rattle.omf_trimming.specs.Choice.{Marked}
use Rattle.omf_trimming.specs.Inner.Choosing.{AreFirsts, segment_if}
use Rattle.omf_trimming.proofs.choice.firsts.Firsts.left_out.Given as goal

-- the segments so far and those to come are all
abbrev pub invariant-loop-marked : goal.invariant-loop-marked
invariant-loop-marked l = (before : List Marked) → AreFirsts l.self.by_name before → l.gone.items ++ flat_map (segment_if before) (drop l.marked-index l.found) ≡ flat_map (segment_if before) l.found
