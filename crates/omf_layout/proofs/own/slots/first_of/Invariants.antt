use Rattle.std.proofs.Common.{◌≡◌, drop}
use Rattle.omf_layout.specs.Own.Order.{first_of}
use Rattle.omf_layout.proofs.own.slots.first_of.Given as goal

-- none so far, so the first of those that are left
abbrev pub invariant-loop-portion : goal.invariant-loop-portion
invariant-loop-portion l = first_of (drop l.portion-index l.run) ≡ first_of l.run
