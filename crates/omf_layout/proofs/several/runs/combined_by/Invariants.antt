use Rattle.std.proofs.Common.{◌≡◌, ◌++◌, drop}
use Rattle.omf_layout.specs.Several.Order.{combined_by}
use Rattle.omf_layout.proofs.several.runs.combined_by.Given as goal

-- those so far, and those that are left
abbrev pub invariant-loop-portion : goal.invariant-loop-portion
invariant-loop-portion l = l.combined.items ++ combined_by l.combination (drop l.portion-index l.run) ≡ combined_by l.combination l.run
