use Rattle.std.proofs.Common.{◌≡◌, List, length}
use Rattle.std.specs.Vec.Iter.{into_iter_items, into_iter_len}
use Rattle.omf_trimming.specs.Choice.{Marked}
use Rattle.omf_trimming.specs.Inner.Choosing.{AreFirsts}
use Rattle.omf_trimming.proofs.ChoiceLaws.{AreAdded}
use Rattle.omf_trimming.proofs.choice.firsts.Firsts.add_all.Given as goal

-- the instances so far are added, and the others are left
abbrev pub invariant-loop-marked : goal.invariant-loop-marked
invariant-loop-marked l = record {
  size : into_iter_len l.marked-iterator ≡ length (into_iter_items l.marked-iterator);
  held : (before : List Marked) → AreFirsts l.fn.self.by_name before → AreAdded l.self.by_name before l.fn.found.items (into_iter_items l.marked-iterator);
}
