use Rattle.omf_placement.specs.Derive.{placed_modules}
use Rattle.omf_linking.specs.Inner.Turning.{AreTaken}
use Rattle.omf_linking.proofs.turns.by_turns.Given as goal

-- the modules so far are in memory
abbrev pub invariant-loop-j : goal.invariant-loop-j
invariant-loop-j l = AreTaken (placed_modules l.modules l.placements) l.stored l.intervals.items l.j l.turns
