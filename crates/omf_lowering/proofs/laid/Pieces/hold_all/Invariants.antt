use Rattle.std.proofs.Common.{◌≡◌}
use Rattle.omf_lowering.proofs.laid.Pieces.hold_all.Given as goal

-- the data stay
abbrev pub invariant-loop-number : goal.invariant-loop-number
invariant-loop-number l = l.self ≡ l.fn.self
