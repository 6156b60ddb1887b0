use Rattle.std.proofs.Common.{◌≡◌, ◌++◌}
use Rattle.omf_check.specs.Inner.Kept.{starts}
use Rattle.omf_check.proofs.table.growth.add_starts.Given as goal

-- the places so far, and the remaining ones
abbrev pub invariant-loop-item : goal.invariant-loop-item
invariant-loop-item g l = l.places.items ++ starts l.at l.item-iterator ≡ l.fn.places.items ++ starts l.at l.fn.items
