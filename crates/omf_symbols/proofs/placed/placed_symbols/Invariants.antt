use Rattle.std.proofs.Common.{◌≡◌, ◌++◌, drop}
use Rattle.omf_placement.specs.Derive.{placed_modules}
use Rattle.omf_symbols.specs.Placed.{placed_symbols}
use Rattle.omf_symbols.proofs.placed.placed_symbols.Given as goal

-- the symbols of the modules so far, and those of the modules that are left
abbrev pub invariant-loop-j : goal.invariant-loop-j
invariant-loop-j l = l.symbols.items ++ placed_symbols l.load (drop l.j (placed_modules l.modules l.placements)) ≡ placed_symbols l.load (placed_modules l.modules l.placements)
