use Rattle.std.proofs.Common.{◌≡◌, drop, ◌∷◌, []}
use Rattle.omf_lowering.specs.Inner.Turns.{offsets_by}
use Rattle.omf_lowering.proofs.copies.Copies.offsets.Given as goal

-- with the turns that are left, the offsets
abbrev pub invariant-loop-turn : goal.invariant-loop-turn
invariant-loop-turn l = offsets_by l.offsets.items (drop l.turn-index l.self.turns) ≡ offsets_by (l.self.first ∷ []) l.self.turns
