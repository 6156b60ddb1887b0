use Rattle.std.proofs.Common.{◌≡◌, ◌++◌}
use Rattle.std.specs.Vec.Iter.{into_iter_items}
use Rattle.omf_externals.proofs.moving.move_all.Given as goal

-- the values so far were moved, and the others are left
abbrev pub invariant-loop-value : goal.invariant-loop-value
invariant-loop-value g l = l.all.items ++ into_iter_items l.value-iterator ≡ l.fn.all.items ++ l.fn.own.items
