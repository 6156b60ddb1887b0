use Rattle.std.proofs.Common.{◌≡◌, drop}
use Rattle.omf_lowering.specs.Inner.Turns.{counts}
use Rattle.omf_lowering.proofs.copies.Copies.count.Given as goal

-- with the turns that are left, the number
abbrev pub invariant-loop-turn : goal.invariant-loop-turn
invariant-loop-turn l = counts l.count (drop l.turn-index l.self.turns) ≡ counts 1 l.self.turns
