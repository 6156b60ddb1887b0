use Rattle.std.proofs.Common.{◌≡◌, ◌++◌, List, drop}
use Rattle.std.specs.Prelude.{flat_map}
use Rattle.omf_trimming.specs.Choice.{Marked}
use Rattle.omf_trimming.specs.Clashes.{clash_after}
use Rattle.omf_trimming.specs.Inner.Choosing.{AreFirsts}
use Rattle.omf_trimming.proofs.choice.firsts.Firsts.push_clashes.Given as goal

-- those so far and those to come are all
abbrev pub invariant-loop-marked : goal.invariant-loop-marked
invariant-loop-marked l = (before : List Marked) → AreFirsts l.self.by_name before
    → l.found.items ++ flat_map (clash_after l.number before) (drop l.marked-index l.own) ≡ l.fn.found.items ++ flat_map (clash_after l.number before) l.own
