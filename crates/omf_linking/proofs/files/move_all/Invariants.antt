use Rattle.std.proofs.Common.{◌≡◌, ◌++◌, length}
use Rattle.std.specs.Vec.Iter.{into_iter_items, into_iter_len}
use Rattle.omf_linking.proofs.files.move_all.Given as goal

-- the modules so far were moved, and the others are left
abbrev pub invariant-loop-module : goal.invariant-loop-module
invariant-loop-module l = record {
  moved : l.modules.items ++ into_iter_items l.left ≡ l.fn.modules.items ++ l.fn.own.items;
  size : into_iter_len l.left ≡ length (into_iter_items l.left);
}

abbrev pub decreases-loop-module : goal.decreases-loop-module
decreases-loop-module l = into_iter_len l.left
