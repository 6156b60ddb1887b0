use Rattle.std.proofs.Common.{◌≡◌, ◌++◌, length}
use Rattle.std.specs.Prelude.{None, replicate}
use Rattle.omf_virtual.proofs.externals.push_each.Given as goal

-- the externals so far, and those to come
abbrev pub invariant-loop-item : goal.invariant-loop-item
invariant-loop-item g l = l.all.items ++ replicate (length l._item-iterator) None ≡ l.fn.all.items ++ replicate (length l.fn.items) None
