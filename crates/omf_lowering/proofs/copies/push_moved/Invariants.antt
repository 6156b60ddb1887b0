use Rattle.std.proofs.Common.{◌≡◌, ◌++◌, take}
use Rattle.omf_lowering.specs.Inner.Turns.{further}
use Rattle.omf_lowering.proofs.copies.push_moved.Given as goal

abbrev pub invariant-loop-at : goal.invariant-loop-at
invariant-loop-at l = l.offsets.items ≡ l.fn.offsets.items ++ further l.by (take l.at l.fn.offsets.items)
