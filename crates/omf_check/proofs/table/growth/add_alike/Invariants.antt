use Rattle.std.proofs.Common.{◌≡◌, ◌++◌}
use Rattle.omf_check.specs.Inner.Kept.{alike}
use Rattle.omf_check.proofs.table.growth.add_alike.Given as goal

-- the values so far, and the remaining ones
abbrev pub invariant-loop-item : goal.invariant-loop-item
invariant-loop-item g l = l.values.items ++ alike l.value l._item-iterator ≡ l.fn.values.items ++ alike l.value l.fn.items
