use Rattle.std.proofs.Common.{◌≡◌}
use Rattle.omf_check.specs.Inner.Judging.{lesser, room_fault}
use Rattle.omf_check.specs.Rules.{places}
use Rattle.omf_check.proofs.rule.room_fault.Given as goal

-- the fault so far, and that of the remaining ones
abbrev pub invariant-loop-item : goal.invariant-loop-item
invariant-loop-item g l = lesser l.found (room_fault l.left (places l.item-iterator)) ≡ room_fault l.room (places l.fn.items)
