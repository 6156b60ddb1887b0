use Rattle.std.proofs.Common.{◌≡◌, length}
use Rattle.omf_reloc.specs.Inner.Pieces.{given, steps_left, AreSet}
use Rattle.omf_reloc.proofs.pieces.PiecesIterator.next.Given as goal

-- the threads are set, and the pieces that are still to come are those at the front
abbrev pub invariant-loop-step : goal.invariant-loop-step
invariant-loop-step l = AreSet l.self-inside.threads l.self-inside.fixups l.self-inside.records × (given (steps_left l.self-inside.threads l.self-inside.fixups l.self-inside.records) ≡ l.fn.self)

abbrev pub decreases-loop-step : goal.decreases-loop-step
decreases-loop-step l = length (steps_left l.self-inside.threads l.self-inside.fixups l.self-inside.records)
